-- The question that is read is the one that is asked.
use Rattle.std.proofs.Common.{◌≡◌, ◌∙◌, ap, sym, subst, arith}
use Rattle.go_rules.specs.Strings.{cell_at}
use Rattle.go_rules.specs.Position.{BoardState, stone_of}
use Rattle.go_base.specs.Facts.{CellIs, same_size}
use Rattle.read_rules.specs.ActiveArea.{AddsNear}
use Rattle.read_rules.proofs.AreaLemmas.{AddsNear-trans}
use Rattle.connect_rules.specs.declared.question.LinkQuestion.{LinkQuestion}
use Rattle.connect_rules.specs.ConnectionArea.{InConnectionArea}
use Rattle.connect_rules.specs.Linkages.{asked_on}
use Rattle.read_connect.proofs.StandingNodes.{point_on}
use Rattle.read_connect.proofs.ReadingLemmas.{about_stones, look_a, question_is}
use Rattle.read_connect.proofs.reading.answered.Given.{Over}
use Rattle.read_connect.proofs.reading.answered.Goals as goal
use Rattle.read_connect.proofs.reading.answered.Goals.{After-size}

-- the question that is read
abbrev question : (g : Over) (c : After-size g) → LinkQuestion
question g c = record {
  size = c.size.result;
  kind = c.args.kind;
  a = c.args.a;
  b = c.args.b;
  colour = c.colour-colour.result;
  plies = c.args.plies;
}

-- the question that is asked
abbrev asked : (g : Over) (c : After-size g) → LinkQuestion
asked g c = asked_on (g.L.Look.shows c.args.look) c.args.kind c.args.a c.args.b c.args.plies

-- the first cell is that of the position shown
first_cell : (g : Over) (c : After-size g) → cell_at (g.L.Look.shows c.args.look).cells c.args.a ≡ c.cell.result
first_cell g c = grind arith

-- the two questions are one
is_asked : (g : Over) (c : After-size g) → question g c ≡ asked g c
is_asked g c = grind (arith, question_is, first_cell)

-- the answer is that of the question asked
pub returns-clause-over : goal.returns-clause-over
returns-clause-over g c = grind (arith, is_asked)

-- the look at the first point and the reading lie in the active area
pub returns-clause-near : goal.returns-clause-near
returns-clause-near g c = λ pos a.
    let s = (goal.at.returns-clause-near g c).After-size in
    let q = question g s in
    let shown = g.L.Look.shows c.args.look in
    let same : g.L.Look.shows c.read.result.look ≡ shown = c.read.ensures.shown ∙ c.cell.ensures.same in
    let size : pos.size ≡ shown.size =
    same_size (g.met.L.Look.sized c.read.result.look) a ∙ ap (λ (p : BoardState). p.size) same in
    let about = about_stones q pos
    (c.size.ensures ∙ ap (λ (p : BoardState). p.size) c.cell.ensures.same ∙ sym size)
    (a.each (CellIs q.a (stone_of q.colour)) c.read.ensures.a)
    (a.each (CellIs q.b (stone_of q.colour)) c.read.ensures.b) in
    let at_a = look_a q pos (point_on pos.size shown.size q.a size c.requires.a_on)
    (point_on pos.size shown.size q.b size c.requires.b_on) about c.cell.ensures.only in
    subst (λ (asked : LinkQuestion). AddsNear (g.L.Look.seen c.args.look) (g.L.Look.seen c.read.result.look)
    (InConnectionArea asked pos)) (is_asked g s) (AddsNear-trans at_a (c.read.ensures.near pos a))
