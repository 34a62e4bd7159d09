-- The loop over the points of the board.
use Rattle.std.proofs.Common.{◌≡◌}
use Rattle.problem_records.specs.Nodes.{all_shown}
use Rattle.problem_records.proofs.Stones.{marked_below}
use Rattle.problem_records.proofs.marks.marked_stones.Given as goal

-- the marked stones on the points so far were found
abbrev pub invariant-points : goal.invariant-points
invariant-points l = l.stones.items ≡ marked_below l.position (all_shown l.values) l.p
