-- The line that was taken is the one that was answered.
use Rattle.std.proofs.Common.{arith}
use Rattle.session.proofs.ServeLemmas.{given_line, given_too_long, answered-line, broken-line}
use Rattle.session.proofs.serve.answer_taken.Goals as goal

-- a line that was held was answered
pub returns-in-Line-clause-ok : goal.returns-in-Line-clause-ok
returns-in-Line-clause-ok g c = grind (arith, answered-line, given_line)

-- the output failed
pub returns-in-Line-clause-part : goal.returns-in-Line-clause-part
returns-in-Line-clause-part g c = grind (arith, broken-line, given_line)

-- a line that was too long was answered
pub returns-in-TooLong-clause-ok : goal.returns-in-TooLong-clause-ok
returns-in-TooLong-clause-ok g c = grind (arith, answered-line, given_too_long)

-- the output failed
pub returns-in-TooLong-clause-part : goal.returns-in-TooLong-clause-part
returns-in-TooLong-clause-part g c = grind (arith, broken-line, given_too_long)
