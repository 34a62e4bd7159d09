use Rattle.std.specs.Prelude.{◌-◌, ◌*◌, ◌&&◌}
use Rattle.std.specs.FinSet as set
use Rattle.go_rules.specs.Below.{any_below}
use Rattle.go_rules.specs.Board.{largest_points}
use Rattle.trial_board.proofs.WalkLemmas.{Walked}
use Rattle.trial_board.specs.Overlays.{neighbourhood_twice}
use Rattle.wider_moves.proofs.AddLemmas.{AddsBelow}
use Rattle.read_moves.specs.Steps.{is_left}
use Rattle.read_moves.proofs.moves.add_backfilling.Given as goal

-- the points that the plays at the points below the next one leave came
abbrev pub invariant-loop-l : goal.invariant-loop-l
invariant-loop-l g l = Walked g.L.Look.shows g.L.Look.seen
    (λ s here r. any_below (s * s) (λ k. set.contains l.points k && neighbourhood_twice s here.cells k r))
    (λ s here. AddsBelow (is_left here l.c) l.points l.fn.found l.from l.found) l.fn.board l.board

-- how many points are left
abbrev pub decreases-loop-l : goal.decreases-loop-l
decreases-loop-l g l = largest_points - l.from
