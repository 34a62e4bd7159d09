-- The reply to a question with a fault.
use Rattle.std.proofs.Common.{refl}
use Rattle.board_doors.proofs.replies.moves_reply.Goals as goal

-- its status, and else 0
pub returns-in-Err : goal.returns-in-Err
returns-in-Err c = rw c.in-Err.is (rw (c.status_of.ensures, c.no_points.ensures) refl)
