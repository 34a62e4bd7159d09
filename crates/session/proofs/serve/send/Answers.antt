-- A reply was sent, or it or one before it broke off.
use Rattle.std.proofs.Common.{arith}
use Rattle.session.proofs.ReplyBytes.{sends-reply}
use Rattle.session.proofs.WaitingReplies.{may-stop-is, passed_up}
use Rattle.session.proofs.serve.send.Goals as goal

-- a short reply is out or waits
pub returns-in_ok-put-in-Short-clause-ok : goal.returns-in_ok-put-in-Short-clause-ok
returns-in_ok-put-in-Short-clause-ok g c = grind (arith, sends-reply)

-- a short reply broke off, or one before it
pub returns-in_err-put-in-Short-clause-part : goal.returns-in_err-put-in-Short-clause-part
returns-in_err-put-in-Short-clause-part g c = grind (arith, passed_up, may-stop-is)

-- a reply that took memory is out or waits
pub returns-in_ok-put-in-Text-clause-ok : goal.returns-in_ok-put-in-Text-clause-ok
returns-in_ok-put-in-Text-clause-ok g c = grind (arith, sends-reply)

-- a reply that took memory broke off, or one before it
pub returns-in_err-put-in-Text-clause-part : goal.returns-in_err-put-in-Text-clause-part
returns-in_err-put-in-Text-clause-part g c = grind (arith, passed_up, may-stop-is)

-- the refusal in place of a growing reply is out or waits
pub returns-in_ok-put-in-NoMemory-clause-ok : goal.returns-in_ok-put-in-NoMemory-clause-ok
returns-in_ok-put-in-NoMemory-clause-ok g c = grind (arith, sends-reply)

-- the refusal in place of a growing reply broke off, or one before it
pub returns-in_err-put-in-NoMemory-clause-part : goal.returns-in_err-put-in-NoMemory-clause-part
returns-in_err-put-in-NoMemory-clause-part g c = grind (arith, passed_up, may-stop-is)
