-- The effects of the commands that ask whether a capture is sure.
use Rattle.std.specs.Prelude.{ℕ, if◌then◌else◌}
use Rattle.go_rules.specs.Strings.{cell_at, is_stone}
use Rattle.gtp_cmd.specs.declared.refusals.RefuseText.TheVariants.{VertexEmpty}
use Rattle.read_rules.specs.declared.question.Answer.{Answer}
use Rattle.read_rules.specs.declared.question.Kind.{Kind}
use Rattle.sure_rules.specs.SureAnswer.{sure_answer_of}
use Rattle.sure_lines.specs.AnswerText.{answer_text}
use Rattle.sure_lines.specs.Effects.{Effect, refused, succeeded}
use Rattle.sure_lines.specs.Machine.{Machine, present, question_at}

-- the sure answer to a question about the stone at p, on the present position and as deep as the machine reads
abbrev pub sure_reading : Machine → Kind → ℕ → Answer
sure_reading machine kind p = sure_answer_of (question_at machine kind p) (present machine)

-- the sure answer is printed; refused if no stone stands at p
abbrev pub read : Machine → Kind → ℕ → Effect
read old kind p =
    if is_stone (cell_at (present old).cells p)
    then succeeded (answer_text old.game.base.size (sure_reading old kind p)) old
    else refused old VertexEmpty
