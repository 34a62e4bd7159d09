-- The line that was taken is the one that was answered.
use Rattle.std.proofs.Common.{sym, arith}
use Rattle.sure_lines.proofs.SessionLemmas.{if_ok_map, answered-is}
use Rattle.sure_lines.proofs.TakenLines.{given_line, given_too_long}
use Rattle.sure_lines.proofs.session.answer_taken.Goals as goal

-- a line of some bytes
pub returns-in-Line-clause-answered : goal.returns-in-Line-clause-answered
returns-in-Line-clause-answered g c = grind (arith, given_line, if_ok_map, answered-is)

-- a line that is too long
pub returns-in-TooLong-clause-answered : goal.returns-in-TooLong-clause-answered
returns-in-TooLong-clause-answered g c = grind (arith, given_too_long, if_ok_map, answered-is)
