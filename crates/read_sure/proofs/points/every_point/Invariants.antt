-- The loop over the points of a board.
use Rattle.std.proofs.Common.{◌≡◌, ℕ, nat_lt}
use Rattle.std.specs.FinSet as set
use Rattle.read_sure.proofs.points.every_point.Given as goal

-- the points so far are in the set, and no other
abbrev pub invariant-points : goal.invariant-points
invariant-points l = (q : ℕ) → set.contains l.points q ≡ nat_lt q l.p
