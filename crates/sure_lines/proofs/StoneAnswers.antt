-- What is told of the stone at a point.
use Rattle.std.proofs.Common.{◌≡◌, ℕ, true, List, arith}
use Rattle.go_rules.specs.Strings.{cell_at, is_stone}
use Rattle.read_rules.specs.declared.question.Kind.{Kind}
use Rattle.sure_lines.specs.AnswerText.{answer_text}
use Rattle.sure_lines.specs.Answers.{IsAnswer}
use Rattle.sure_lines.specs.Machine.{Machine, present}
use Rattle.sure_lines.specs.QuestionCommands.{read, sure_reading}
use Rattle.sure_lines.specs.declared.answer.Answer.{Answer}
use Rattle.sure_lines.specs.declared.answer.Answer.TheVariants as answer

-- if a stone stands at p, the text of its sure reading is an answer
pub succeeded-read : (machine : Machine) (kind : Kind) (p : ℕ) (text : List ℕ) (said : Answer)
    → is_stone (cell_at (present machine).cells p) ≡ true → said ≡ answer.Brief text
    → text ≡ answer_text machine.game.base.size (sure_reading machine kind p)
    → IsAnswer (read machine kind p) said machine machine
succeeded-read machine kind p text said stone says is = grind arith
