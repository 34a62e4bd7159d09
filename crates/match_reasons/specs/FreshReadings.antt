-- Fresh readings at given depths.
use Rattle.std.specs.Prelude.{ℕ, ◌==◌, Option, Some, None, if◌then◌else◌}
use Rattle.go_rules.specs.Position.{BoardState}
use Rattle.read_rules.specs.declared.depths.Depths.{Depths}
use Rattle.read_rules.specs.declared.question.Answer.{Answer}
use Rattle.read_rules.specs.declared.question.Kind.{Kind}
use Rattle.read_rules.specs.declared.question.Kind.TheVariants.{Attack}
use Rattle.read_rules.specs.Answer.{code_of, answer_of, asked_in}
use Rattle.cons_eval.specs.Readings.{Codes, code_at}

-- the answer of a fresh reading at the depths d to a question about the string at p
abbrev pub fresh_answer : Depths → Kind → BoardState → ℕ → Answer
fresh_answer d kind board p = answer_of (asked_in d.tree board kind p d.plies d.wide) board

-- the codes of fresh readings at the depths d
abbrev pub fresh_codes : Depths → Codes
fresh_codes d kind board p = code_of (asked_in d.tree board kind p d.plies d.wide) board

-- the attack that captures the stone at p, or None if no attack captures it
abbrev pub capture_of : Depths → BoardState → ℕ → Option Answer
capture_of d board p =
    if code_at (fresh_codes d) Attack board p == 0 then None else Some (fresh_answer d Attack board p)
