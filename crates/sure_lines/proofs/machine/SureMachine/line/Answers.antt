-- A line is answered as what it says.
use Rattle.std.proofs.Common.{◌≡◌, ◌∙◌, false, [], inl, refl, sym, subst, rules}
use Rattle.gtp_cmd.specs.declared.commands.Parsed.TheVariants.{Nothing, Refused, Command}
use Rattle.gtp_lex.specs.Raw.{raw_line}
use Rattle.gtp_rules.specs.Transcript.{MayGive}
use Rattle.sure_lines.specs.Effects.{refused, replied}
use Rattle.sure_lines.specs.Replies.{reply_bytes, reply_ends}
use Rattle.sure_lines.specs.SureStep.{effect_of}
use Rattle.sure_lines.specs.declared.reply.Reply.{Reply}
use Rattle.sure_lines.proofs.LineAnswers.{answered}
use Rattle.sure_lines.proofs.machine.SureMachine.line.Goals as goal

-- nothing is answered to nothing
pub returns-in-Nothing-clause-answers : goal.returns-in-Nothing-clause-answers
returns-in-Nothing-clause-answers g c =
    let same : c.size.result ≡ c.args.self.now.game.base.size = search rules in
    answered (g.L.Loader.contents c.args.files.now) c.args.self.now c.args.self.now (raw_line c.args.raw) c.size.result
    Nothing [] false [] (sym c.in-Nothing.is ∙ c.heard.ensures.said) same tt (inl (refl, refl, refl))

-- a line that is refused as it is read is answered so
pub returns-in-Refused-clause-answers : goal.returns-in-Refused-clause-answers
returns-in-Refused-clause-answers g c =
    let same : c.size.result ≡ c.args.self.now.game.base.size = search rules in
    let id = c.in-Refused.id in
    let text = c.in-Refused.text in
    answered (g.L.Loader.contents c.args.files.now) c.args.self.now c.args.self.now (raw_line c.args.raw) c.size.result
    (Refused id text) _ _ [] (sym c.in-Refused.is ∙ c.heard.ensures.said) same tt
    (subst (λ (r : Reply). MayGive (replied id c.args.self.now (refused c.args.self.now text)) (reply_bytes r)
    c.args.self.now (reply_ends r)) (sym c.refused.ensures) (inl (refl, refl, refl)))

-- a command is answered by what it does
pub returns-in-Command-clause-answers : goal.returns-in-Command-clause-answers
returns-in-Command-clause-answers g c =
    let same : c.size.result ≡ c.args.self.now.game.base.size = search rules in
    let done = rw c.bytes_of.ensures at c.obey.ensures.answer in
    answered (g.L.Loader.contents c.args.files.now) c.args.self.now c.obey.new.self (raw_line c.args.raw) c.size.result
    (Command c.in-Command.id c.in-Command.command) _ _ done.0 (sym c.in-Command.is ∙ c.heard.ensures.said) same done.1
    (c.reply.ensures _ c.args.self.now c.obey.new.self done.2)
