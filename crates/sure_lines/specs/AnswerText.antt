-- How the answer to a question is printed.
use Rattle.std.specs.Prelude.{ℕ, List, [], ◌∷◌, ◌++◌, Option, None, Some, codes, decimal}
use Rattle.gtp_cmd.specs.Vertices.{vertex_text}
use Rattle.gtp_cmd.specs.Words.{blank}
use Rattle.read_rules.specs.declared.question.Answer.{Answer}
use Rattle.read_rules.specs.declared.question.Spot.{Spot}
use Rattle.read_rules.specs.declared.question.Spot.TheVariants.{At, Pass}

-- the printed text of a move on a board of size s; a pass is `PASS`
abbrev pub spot_text : ℕ → Spot → List ℕ
spot_text s (At p) = vertex_text s p
spot_text s Pass = codes "PASS"

-- a blank and a move, or nothing if there is no move
abbrev pub move_text : ℕ → Option Spot → List ℕ
move_text s None = []
move_text s (Some spot) = blank ∷ spot_text s spot

-- the printed text of an answer on a board of size s: its code, and after a blank its move if there is one
abbrev pub answer_text : ℕ → Answer → List ℕ
answer_text s answer = decimal answer.code ++ move_text s answer.at
