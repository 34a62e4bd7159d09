use Rattle.std.specs.Prelude.{◌-◌, ◌*◌, ◌&&◌}
use Rattle.std.specs.FinSet as set
use Rattle.go_rules.specs.Below.{any_below}
use Rattle.go_rules.specs.Board.{largest_points}
use Rattle.go_base.specs.Views.{neighbours_of}
use Rattle.trial_board.proofs.WalkLemmas.{Walked}
use Rattle.wider_rules.specs.Strings.{holds_next}
use Rattle.wider_moves.proofs.AddLemmas.{AddsBelow}
use Rattle.wider_moves.proofs.sides.add_sides_of.Given as goal

-- the neighbours of the points below the next one came where the cell stands there
abbrev pub invariant-loop-l : goal.invariant-loop-l
invariant-loop-l g l = Walked g.L.Look.shows g.L.Look.seen
    (λ s here r. any_below (s * s) (λ k. set.contains l.points k && neighbours_of s k r))
    (λ s here. AddsBelow (holds_next s here.cells l.cell) l.points l.fn.found l.next l.found) l.fn.board l.board

-- how many points are left
abbrev pub decreases-loop-l : goal.decreases-loop-l
decreases-loop-l g l = largest_points - l.next
