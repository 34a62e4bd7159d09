-- The loop over the points.
use Rattle.board_doors.proofs.MoveNumbers.{AreWritten}
use Rattle.board_doors.proofs.replies.point_bytes.Given as goal

-- the bytes of the points so far are written
abbrev pub invariant-loop-p : goal.invariant-loop-p
invariant-loop-p l = AreWritten l.points l.p l.bytes
