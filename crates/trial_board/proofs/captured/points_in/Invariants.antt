use Rattle.std.proofs.Common.{◌≡◌}
use Rattle.trial_board.specs.Captured.{points_in}
use Rattle.trial_board.proofs.captured.points_in.Given as goal

-- the points of the places before this one are there
abbrev pub invariant-loop-i : goal.invariant-loop-i
invariant-loop-i l = l.points ≡ points_in l.row l.first l.i
