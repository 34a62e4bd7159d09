-- The first move is the reply if plies are left.
use Rattle.std.proofs.Common.{arith}
use Rattle.read_all.proofs.ReplyLemmas.{no_ply, some_plies}
use Rattle.read_all.proofs.replies.first_reply.Goals as goal

-- no ply is left
pub returns-then-plies-eq0-clause-over : goal.returns-then-plies-eq0-clause-over
returns-then-plies-eq0-clause-over g c = grind (arith, no_ply)

-- some are
pub returns-clause-over : goal.returns-clause-over
returns-clause-over g c = grind (arith, some_plies)
