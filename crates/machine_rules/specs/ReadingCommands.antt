-- What the commands do that read whether a string can be captured.
use Rattle.std.specs.Prelude.{ℕ, List, [], ◌∷◌, ◌++◌, Option, None, Some, codes, decimal}
use Rattle.read_rules.specs.declared.question.Kind.{Kind}
use Rattle.read_rules.specs.declared.question.Spot.{Spot}
use Rattle.read_rules.specs.declared.question.Spot.TheVariants.{At, Pass}
use Rattle.read_rules.specs.declared.question.Answer.{Answer}
use Rattle.read_rules.specs.Answer.{answer_of}
use Rattle.gtp_cmd.specs.Words.{blank}
use Rattle.gtp_cmd.specs.Vertices.{vertex_text}
use Rattle.machine_rules.specs.Machine.{Machine, position_of, question_at}
use Rattle.machine_rules.specs.Effects.{Effect, succeeded}
use Rattle.machine_rules.specs.BoardCommands.{of_stone}

-- a move of a board of size s as it is printed; a pass is `PASS`
abbrev pub spot_text : ℕ → Spot → List ℕ
spot_text s (At p) = vertex_text s p
spot_text s Pass = codes "PASS"

-- a move after a blank; empty if there is no move
abbrev pub move_text : ℕ → Option Spot → List ℕ
move_text s None = []
move_text s (Some spot) = blank ∷ spot_text s spot

-- an answer on a board of size s: its code, and its move after a blank if there is one
abbrev pub answer_text : ℕ → Answer → List ℕ
answer_text s answer = decimal answer.code ++ move_text s answer.at

-- the answer to a question about the stone at p, read on the machine's position as deep as the machine says
abbrev pub reading_of : Machine → Kind → ℕ → Answer
reading_of machine kind p = answer_of (question_at machine kind p) (position_of machine)

-- the answer to a question about the string of a point is printed
abbrev pub read : Machine → Kind → ℕ → Effect
read old kind p = of_stone old p (succeeded (answer_text old.base.size (reading_of old kind p)) old)

-- readings go this deep from now on
abbrev pub deepened : Machine → ℕ → ℕ → Effect
deepened old plies wide = succeeded [] (record old { depths = record old.depths { plies = plies; wide = wide } })
