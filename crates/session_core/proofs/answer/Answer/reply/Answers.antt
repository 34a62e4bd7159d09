-- The reply to a command is one that the machine may give.
use Rattle.std.proofs.Common.{arith}
use Rattle.session_core.proofs.LoadAnswers.{missed-refused}
use Rattle.session_core.proofs.CommandReplies.{gives-excuse, gives-refusal}
use Rattle.session_core.proofs.answer.Answer.reply.Goals as goal

-- there was no memory for the reply with a result that grew
pub returns-in-Grown-clause-reply : goal.returns-in-Grown-clause-reply
returns-in-Grown-clause-reply c = grind (arith, gives-excuse)

-- there was none before
pub returns-in-NoMemory-clause-reply : goal.returns-in-NoMemory-clause-reply
returns-in-NoMemory-clause-reply c = grind (arith, gives-excuse)

-- a refusal
pub returns-in-Refused-clause-reply : goal.returns-in-Refused-clause-reply
returns-in-Refused-clause-reply c = grind (arith, gives-refusal)

-- a refusal missed a file where it says so
pub returns-in-Refused-clause-missed : goal.returns-in-Refused-clause-missed
returns-in-Refused-clause-missed c = grind (arith, missed-refused)
