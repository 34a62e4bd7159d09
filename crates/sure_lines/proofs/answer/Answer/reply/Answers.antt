-- The reply to a command is one that the machine may give.
use Rattle.std.proofs.Common.{arith}
use Rattle.sure_lines.proofs.CommandReplies.{gives-excuse, gives-refusal}
use Rattle.sure_lines.proofs.answer.Answer.reply.Goals as goal

-- there was no memory for the reply with a result that took some
pub returns-in-Grown : goal.returns-in-Grown
returns-in-Grown c = grind (arith, gives-excuse)

-- there was none before
pub returns-in-NoMemory : goal.returns-in-NoMemory
returns-in-NoMemory c = grind (arith, gives-excuse)

-- a refusal
pub returns-in-Refused : goal.returns-in-Refused
returns-in-Refused c = grind (arith, gives-refusal)
