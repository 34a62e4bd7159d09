-- The reply waits, and may be put at once with what waits.
use Rattle.std.proofs.Common.{arith}
use Rattle.session.proofs.WaitingReplies.{on_ok_map, sends-stays}
use Rattle.session_core.proofs.LineAnswers.{if_err_map}
use Rattle.session.proofs.outbox.Outbox.keep.Goals as goal

-- it went out
pub returns-then-now-clause-ok : goal.returns-then-now-clause-ok
returns-then-now-clause-ok g c = grind (arith, on_ok_map, sends-stays)

-- a reply broke off
pub returns-then-now-clause-part : goal.returns-then-now-clause-part
returns-then-now-clause-part g c = grind (arith, if_err_map)

-- it waits
pub returns-clause-ok : goal.returns-clause-ok
returns-clause-ok g c = c.add.ensures _
