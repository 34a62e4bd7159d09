use Rattle.std.specs.Prelude.{◌-◌}
use Rattle.std.specs.FinSet as set
use Rattle.go_rules.specs.Board.{largest_points}
use Rattle.go_rules.specs.Neighbourhood.{neighbourhood_of}
use Rattle.go_base.specs.Surroundings.{is_only_liberty}
use Rattle.trial_board.proofs.WalkLemmas.{Walked}
use Rattle.wider_moves.proofs.AddLemmas.{AddsBelow}
use Rattle.wider_moves.proofs.last.last_liberties.Given as goal

-- the one liberties of the strings of the points below the next one came
abbrev pub invariant-loop-r : goal.invariant-loop-r
invariant-loop-r g l = Walked g.L.Look.shows g.L.Look.seen
    (λ s here. neighbourhood_of s here.cells (set.contains l.points))
    (λ s here. AddsBelow (is_only_liberty s here.cells) l.points set.empty l.next l.found) l.fn.board l.board

-- how many points are left
abbrev pub decreases-loop-r : goal.decreases-loop-r
decreases-loop-r g l = largest_points - l.next
