-- A line is answered as what it says.
use Rattle.std.proofs.Common.{sym}
use Rattle.gtp_lex.specs.Raw.{raw_line}
use Rattle.helpers.specs.Slots.{states_of}
use Rattle.session_core.specs.Kept.{kept_with}
use Rattle.session_core.proofs.LineAnswers.{answers-line-at, file_for, left-line, if_ok_map, if_err_map}
use Rattle.session_core.proofs.session.Session.try_line.Goals as goal

-- what answers what the line says answers the line
pub returns-clause-answers : goal.returns-clause-answers
returns-clause-answers g c = λ contents missed.
    let helpers = states_of (λ z. (goal.Helper-dyn g z).state z.1) c.args.self.now.helpers in
    let old = kept_with helpers missed c.args.self.now.engine in
    let new = kept_with (states_of (λ z. (goal.Helper-dyn g z).state z.1) c.try_answer.new.helpers) missed
    c.try_answer.new.self in
    if_ok_map c.try_answer.result
    (λ answer is. answers-line-at _ contents old (raw_line c.args.raw) c.heard-said.result answer new
    c.bytes_of.result.now
    c.bytes_of.ensures (sym (c.heard-said.ensures.said helpers)) is)
    (c.try_answer.ensures.answers missed (file_for contents c.bytes_of.result.now c.heard-said.result))

-- what the line says was left
pub returns-clause-left : goal.returns-clause-left
returns-clause-left g c = λ missed.
    let helpers = states_of (λ z. (goal.Helper-dyn g z).state z.1) c.args.self.now.helpers in
    if_err_map c.try_answer.result
    (λ slow left. left-line (kept_with helpers missed c.args.self.now.engine) _ _ _ c.heard-said.result _ slow
    c.bytes_of.ensures (c.heard-said.ensures.said helpers) left)
    (c.try_answer.ensures.left missed)
