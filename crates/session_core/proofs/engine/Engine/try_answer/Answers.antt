-- What a line says is answered as it says.
use Rattle.std.proofs.Common.{sym, ap, subst, ◌∙◌, ◌++◌, append-nil, arith}
use Rattle.gtp_cmd.specs.declared.commands.Parsed.{Parsed}
use Rattle.gtp_cmd.specs.declared.commands.Parsed.TheVariants.{Refused}
use Rattle.helpers.specs.Slots.{states_of}
use Rattle.machine_rules.specs.Step.{Input}
use Rattle.session_core.specs.LineAnswers.{AnswersParsed}
use Rattle.session_core.specs.MatcherView.{matcher_of}
use Rattle.session_core.specs.Kept.{kept_with}
use Rattle.session_core.specs.Replies.{reply_bytes}
use Rattle.session_core.specs.declared.reply.Reply.{Reply}
use Rattle.session_core.proofs.LineAnswers.{answers-nothing, answers-refused, answers-command, left-command}
use Rattle.session_core.proofs.LoadAnswers.{missed-none}
use Rattle.session_core.proofs.engine.Engine.try_answer.Goals as goal

-- nothing is answered to nothing
pub returns-in-Nothing-clause-answers : goal.returns-in-Nothing-clause-answers
returns-in-Nothing-clause-answers g c = λ missed file.
    let kept = kept_with (states_of (λ z. (goal.Helper-dyn g z).state z.1) c.args.helpers.now) missed c.args.self.now in
    let matcher = matcher_of c.args.matcher.now in
    let input : Input = record { line = c.args.line.now; file = file } in
    subst (λ (p : Parsed). AnswersParsed matcher kept input p _ kept) (sym c.in-Nothing.is)
    (answers-nothing matcher kept input)

-- a line that is refused as it is read is answered so
pub returns-in-Refused-clause-answers : goal.returns-in-Refused-clause-answers
returns-in-Refused-clause-answers g c = λ missed file.
    let kept = kept_with (states_of (λ z. (goal.Helper-dyn g z).state z.1) c.args.helpers.now) missed c.args.self.now in
    let matcher = matcher_of c.args.matcher.now in
    let input : Input = record { line = c.args.line.now; file = file } in
    subst (λ (p : Parsed). AnswersParsed matcher kept input p c.refused.result kept)
    (sym c.in-Refused.is)
    (subst (λ (r : Reply). AnswersParsed matcher kept input (Refused c.in-Refused.id c.in-Refused.text) r kept)
    (sym c.refused.ensures) (answers-refused matcher kept input c.in-Refused.id c.in-Refused.text))

-- the reply to a command answers the line that says it
pub returns-in-Ok-clause-answers : goal.returns-in-Ok-clause-answers
returns-in-Ok-clause-answers g c = λ missed file.
    answers-command _ _ _ c.args.said c.in-Command.id c.in-Command.command c.reply.result _ c.in-Command.is
    (c.reply.ensures.reply _ _ (c.in-Ok.ensures.answer file)) c.reply.ensures.bytes c.in-Ok.ensures.readings
    c.in-Ok.ensures.read c.in-Ok.ensures.links
    (sym (ap (λ l. missed ++ l) (missed-none c.args.line.now c.in-Command.id c.in-Command.command
    (reply_bytes c.reply.result) c.in-Ok.ensures.loads) ∙ append-nil missed))

-- a command that may take long leaves its line
pub returns-in-Err-clause-left : goal.returns-in-Err-clause-left
returns-in-Err-clause-left g c = grind (arith, left-command)
