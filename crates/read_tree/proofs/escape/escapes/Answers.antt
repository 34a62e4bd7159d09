-- The defender runs free at the liberty that was found.
use Rattle.std.proofs.Common.{◌*◌, ◌&&◌, ◌||◌, arith}
use Rattle.std.specs.FinSet as set
use Rattle.std.proofs.lemmas.Bool.{and_from, or_right}
use Rattle.go_base.specs.Facts.{Agrees, AddsIn, agrees_before, same_size, AddsIn-trans, AddsIn-mono}
use Rattle.go_base.specs.Views.{alone, neighbours_of}
use Rattle.go_rules.specs.Below.{any_below}
use Rattle.go_rules.specs.Position.{BoardState}
use Rattle.go_rules.proofs.Cells.{ne_false_same}
use Rattle.go_rules.proofs.Counts.{any_below_from}
use Rattle.go_rules.proofs.Paths.{same_cell-true}
use Rattle.read_rules.proofs.AreaLemmas.{target_on}
use Rattle.read_tree.proofs.escape.escapes.Given.{Over}
use Rattle.read_tree.proofs.escape.escapes.Goals.{After-runs_free}
use Rattle.read_tree.proofs.escape.escapes.Goals as goal

-- he escapes there, on each position that agrees
pub returns-then-runs_free-clause-over : goal.returns-then-runs_free-clause-over
returns-then-runs_free-clause-over g c = grind (arith, same_cell-true, ne_false_same)

-- the looks at that liberty are among those that are told
run_near : (g : Over) (c : After-runs_free g) (pos : BoardState) → Agrees (g.L.Look.seen c.runs_free.new.board.look) pos
    → AddsIn (g.L.Look.seen c.args.board.now.look) (g.L.Look.seen c.runs_free.new.board.look)
    (λ r. alone c.args.turn.target r || any_below (pos.size * pos.size)
    (λ l. set.contains c.args.known.now l && (alone l r || neighbours_of pos.size l r)))
run_near g c pos a =
    let i = c.loop-l.invariant in
    let l = c.in-Some.l in
    let there = c.in-Some.ensures.some.2 in
    let a0 = agrees_before c.runs_free.ensures.stays.grows a in
    let size = same_size (g.met.L.Look.sized c.args.board.now.look) (agrees_before i.stays.grows a0) in
    let inside = target_on pos.size (g.L.Look.shows c.args.board.now.look).size l size (c.requires.inside l there) in
    AddsIn-trans (i.near pos a0) (AddsIn-mono (c.runs_free.ensures.near pos a)
    (λ r h. or_right (alone c.args.turn.target r) _ (any_below_from (pos.size * pos.size) _ l inside
    (and_from _ _ there h))))

-- where he runs free
pub returns-then-runs_free-clause-near : goal.returns-then-runs_free-clause-near
returns-then-runs_free-clause-near g c = run_near g (goal.at.returns-then-runs_free-clause-near g c).After-runs_free

-- and so are those at each liberty before
pub loop-l-preserved : goal.loop-l-preserved
loop-l-preserved g c = grind (arith, run_near g (goal.at.loop-l-preserved g c).After-runs_free)
