-- The answer is that of the words of the line, or of the words of the file that they name.
use Rattle.std.proofs.Common.{true, refl, sym, ◌∙◌, arith}
use Rattle.gtp_cmd.specs.declared.refusals.RefuseText.TheVariants.{VertexEmpty}
use Rattle.sure_lines.specs.ProofCommands.{kind_of}
use Rattle.gtp_cmd.specs.Spans.{spanned}
use Rattle.sure_lines.specs.declared.answer.Answer.TheVariants.{Refused}
use Rattle.sure_lines.proofs.ProofAnswers.{empty-checked, file-checked, named-some, word-behind}
use Rattle.sure_lines.proofs.machine.SureMachine.check_proof.Goals as goal

-- no stone stands at the point
pub returns-then-not-has_stone-clause-answer : goal.returns-then-not-has_stone-clause-answer
returns-then-not-has_stone-clause-answer g c =
    empty-checked (g.L.Loader.contents c.args.files.now) c.args.self.now c.args.p c.args.code
    (spanned c.args.line.now c.args.tokens) (Refused VertexEmpty) (kind_of c.args.attack)
    (sym c.has_stone.ensures ∙ c.if-not-has_stone.true) refl

-- the words of the file that is named were judged
pub returns-clause-answer : goal.returns-clause-answer
returns-clause-answer g c = grind (arith, file-checked, word-behind, named-some)
