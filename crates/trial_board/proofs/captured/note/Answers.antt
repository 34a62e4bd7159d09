use Rattle.std.proofs.Common.{arith}
use Rattle.trial_board.proofs.CapturedLemmas.{points_in-none}
use Rattle.trial_board.proofs.captured.note.Goals as goal

-- if nothing was taken nothing is written
pub returns-else-count-ne0-clause-noted : goal.returns-else-count-ne0-clause-noted
returns-else-count-ne0-clause-noted c = grind (arith, points_in-none)
