-- What is set up is what the bytes name.
use Rattle.std.proofs.Common.{arith}
use Rattle.board_bytes.proofs.BytePoints.{set_up_is}
use Rattle.board_bytes.proofs.read.stones_of.Goals as goal

-- by the points of both bytes
pub returns : goal.returns
returns c = grind (arith, set_up_is)
