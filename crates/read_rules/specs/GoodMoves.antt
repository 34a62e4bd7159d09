-- The first good move of a node, what a reading under one code finds, and which moves are on a board.
use Rattle.std.specs.Prelude.{◌≡◌, ℕ, ◌*◌, ◌<◌, ◌&&◌, Bool, true, Option, None, is_some, if◌then◌else◌}
use Rattle.go_rules.specs.Position.{BoardState}
use Rattle.read_rules.specs.declared.node.Node.{Node}
use Rattle.read_rules.specs.declared.question.ReadingQuestion.{ReadingQuestion}
use Rattle.read_rules.specs.declared.question.Spot.{Spot}
use Rattle.read_rules.specs.declared.question.Spot.TheVariants.{At, Pass}
use Rattle.read_rules.specs.GameTree.{has_many_liberties, first_move}
use Rattle.read_rules.specs.Answer.{attains_code, first_move_of}

-- the attacker is to play, and the target has too many liberties for him
abbrev pub is_barred : Node → BoardState → Bool
is_barred node pos = node.turn.attacker_to_play && has_many_liberties node.turn pos

-- the first move that gives the side to play its way; none if the attacker may not play at the target
abbrev pub good_move : ℕ → Node → BoardState → Option Spot
good_move n node pos = if is_barred node pos then None else first_move n node pos

-- the move, if it is no pass, is on a board of size s
abbrev pub IsOnBoard : ℕ → Spot → Type 0
IsOnBoard s (At p) = p < s * s
IsOnBoard s Pass = Unit {0}

-- a move was found exactly if the question attains the code, and it is the first move that attains it
pub record Reads (q : ReadingQuestion) (pos : BoardState) (code : ℕ) (found : Option Spot) : Type 0 where
  pub attained : is_some found ≡ attains_code q pos code
  pub move : is_some found ≡ true → found ≡ first_move_of q pos code
