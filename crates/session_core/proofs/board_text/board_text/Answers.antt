-- The text of one row more.
use Rattle.std.proofs.Common.{arith}
use Rattle.session_core.proofs.Texts.{text-next}
use Rattle.session_core.proofs.board_text.board_text.Goals as goal

-- each row of the board stands below those from the top that were put before it
pub loop-row-preserved : goal.loop-row-preserved
loop-row-preserved c = grind (arith, text-next)
