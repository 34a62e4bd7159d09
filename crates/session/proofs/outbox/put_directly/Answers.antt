-- A front of the reply went out.
use Rattle.std.proofs.Common.{arith}
use Rattle.session.proofs.WaitingReplies.{part-front}
use Rattle.session.proofs.outbox.put_directly.Goals as goal

-- an output that fails within a reply holds a front of it, and the counts after its line are noted
pub returns-in-Err-clause-part : goal.returns-in-Err-clause-part
returns-in-Err-clause-part g c = grind (arith, part-front)
