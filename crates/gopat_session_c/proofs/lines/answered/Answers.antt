-- The session of a handle answered a line, or left it.
use Rattle.std.proofs.Common.{refl}
use Rattle.gopat_session_c.proofs.HeldAnswers.{told-answered, told-unanswered}
use Rattle.gopat_session_c.proofs.lines.answered.Goals as goal

-- the line was answered, and its reply written if there was room
pub returns-in-Ok-clause-answers : goal.returns-in-Ok-clause-answers
returns-in-Ok-clause-answers c =
    told-answered c.args.session.now.slot.held c.in-Some.held _ _ _ _ _ c.in-Some.ensures.taken c.in-Ok.next
    c.put.ensures c.in-Ok.ensures.ok c.in-Ok.ensures.line c.written-told.ensures.reply c.written-told.ensures.over

-- it was left, and nothing changed
pub returns-in-Err-clause-answers : goal.returns-in-Err-clause-answers
returns-in-Err-clause-answers c =
    told-unanswered c.args.session.now.slot.held c.in-Some.held _ _ _ _ _ c.in-Some.ensures.taken c.in-Err.field-0
    c.put-in-Err.ensures c.in-Err.ensures.err c.fault_reply.ensures refl
