-- The numbers are those of all moves that attain the code.
use Rattle.board_doors.proofs.MoveNumbers.{moves_answered}
use Rattle.gopat_c.proofs.gopat_all.Goals as goal

-- the door tells the moves, and the reply has their numbers
pub returns : goal.returns
returns c = moves_answered _ _ _ c.all.ensures c.moves_reply.ensures
