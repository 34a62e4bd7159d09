-- The loop over the points.
use Rattle.board_bytes.proofs.WrittenBytes.{IsWritten}
use Rattle.board_bytes.proofs.write.cells_of.Given as goal

-- the bytes of the points so far are written
abbrev pub invariant-loop-p : goal.invariant-loop-p
invariant-loop-p l = IsWritten l.position l.p l.cells
