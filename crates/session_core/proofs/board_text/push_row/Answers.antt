-- The text of one column more.
use Rattle.std.proofs.Common.{arith}
use Rattle.session_core.proofs.Texts.{text-next}
use Rattle.session_core.proofs.board_text.push_row.Goals as goal

-- each point of a row stands behind the row's number and the points to its left
pub loop-column-preserved : goal.loop-column-preserved
loop-column-preserved c = grind (arith, text-next)
