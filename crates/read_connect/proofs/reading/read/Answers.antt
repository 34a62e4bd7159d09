-- The first looks are at the two points, and the reading stays in the area.
use Rattle.std.proofs.Common.{◌≡◌, ◌∙◌, true, refl, ap, sym, subst, arith}
use Rattle.go_rules.specs.Position.{BoardState}
use Rattle.go_base.specs.Facts.{Agrees, agrees_before, same_size}
use Rattle.trial_board.specs.Trials.{after}
use Rattle.read_rules.specs.ActiveArea.{AddsNear}
use Rattle.read_rules.proofs.AreaLemmas.{AddsNear-trans}
use Rattle.connect_rules.specs.ConnectionArea.{first, InConnectionArea}
use Rattle.connect_rules.specs.Linkages.{is_connect, link_of, is_about}
use Rattle.read_connect.specs.Walk.{IsNodeFor}
use Rattle.read_connect.proofs.StandingNodes.{point_on}
use Rattle.read_connect.proofs.ReadingLemmas.{about_stones, stands_too, look_a, look_b}
use Rattle.read_connect.proofs.reading.read.Given.{Over}
use Rattle.read_connect.proofs.reading.read.Goals as goal
use Rattle.read_connect.proofs.reading.read.Goals.{After-cell-2}

-- both looks show the position that was given
shown : (g : Over) (c : After-cell-2 g) → g.L.Look.shows c.cell-2.new.self ≡ g.L.Look.shows c.args.look
shown g c = c.cell-2.ensures.same ∙ c.cell.ensures.same

-- its size is that of each position that agrees
size_is : (g : Over) (c : After-cell-2 g) (pos : BoardState) → Agrees (g.L.Look.seen c.cell-2.new.self) pos
    → pos.size ≡ (g.L.Look.shows c.args.look).size
size_is g c pos a = same_size (g.met.L.Look.sized c.cell-2.new.self) a ∙ ap (λ (p : BoardState). p.size) (shown g c)

-- the question is about each position that agrees, since both stones stand there
about : (g : Over) (c : After-cell-2 g) (pos : BoardState) → Agrees (g.L.Look.seen c.cell-2.new.self) pos
    → is_about c.args.question pos ≡ true
about g c pos a = grind (arith, about_stones, size_is, stands_too, shown)

-- the looks at the two points and those at the first node lie in the active area
pub returns-clause-near : goal.returns-clause-near
returns-clause-near g c = λ pos a.
    let q = c.args.question in
    let s = (goal.at.returns-clause-near g c).After-cell-2 in
    let a3 = subst (λ look. Agrees (g.L.Look.seen look) pos) c.finish.ensures a in
    let a2 = agrees_before c.first_node-linkage.ensures.stays.grows a3 in
    let a1 = subst (λ t. Agrees (g.L.Look.seen t.look) pos) c.new-board.ensures a2 in
    let a_on = point_on pos.size (g.L.Look.shows c.args.look).size q.a (size_is g s pos a1) c.requires.a_on in
    let b_on = point_on pos.size (g.L.Look.shows c.args.look).size q.b (size_is g s pos a1) c.requires.b_on in
    let area = InConnectionArea q pos in
    let node : IsNodeFor (link_of q) q pos q.plies (is_connect q.kind) pos = record { its = refl; in_tree = first } in
    let reading = subst (λ t. IsNodeFor (link_of q) q pos q.plies (is_connect q.kind) (after pos t.moves)
    → AddsNear (g.L.Look.seen t.look) (g.L.Look.seen c.first_node-linkage.new.board.look) area) c.new-board.ensures
    (c.first_node-linkage.ensures.near pos a3 q pos) node in
    subst (λ look. AddsNear (g.L.Look.seen c.args.look) (g.L.Look.seen look) area) (sym c.finish.ensures)
    (AddsNear-trans (look_a q pos a_on b_on (about g s pos a1) c.cell.ensures.only)
    (AddsNear-trans (look_b q pos a_on b_on (about g s pos a1) c.cell-2.ensures.only) reading))
