-- The loop over the points.
use Rattle.std.proofs.Common.{◌≡◌, ℕ}
use Rattle.std.specs.FinSet as set
use Rattle.board_bytes.specs.Bytes.{has_byte}
use Rattle.board_bytes.proofs.read.points_with.Given as goal

-- the set has the points so far that have the byte
abbrev pub invariant-loop-p : goal.invariant-loop-p
invariant-loop-p l = (q : ℕ) → set.contains l.found q ≡ has_byte l.bytes l.byte l.p q
