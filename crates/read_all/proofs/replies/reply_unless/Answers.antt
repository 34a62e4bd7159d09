-- There is a reply if the side that has moved does not have its way.
use Rattle.std.proofs.Common.{arith}
use Rattle.read_all.proofs.replies.reply_unless.Goals as goal

-- it has its way
pub returns-then-wins_at-attacker-clause-over : goal.returns-then-wins_at-attacker-clause-over
returns-then-wins_at-attacker-clause-over g c = grind arith

-- it does not
pub returns-clause-over : goal.returns-clause-over
returns-clause-over g c = grind arith
