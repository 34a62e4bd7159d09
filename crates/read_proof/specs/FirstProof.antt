-- The first proof of a true claim, and of the code of a question. The word of a node is `.` if the claim is settled;
-- else the play that takes back, if the defender can; else, if the claim is what the side to play wants, the first move
-- that leads to it, the pass before all points; and else `*`.
use Rattle.std.specs.Prelude.{◌≡◌, ℕ, zero, suc, Bool, List, [], ◌∷◌, ◌++◌, Option, None, Some, if◌then◌else◌}
use Rattle.std.specs.Prelude.{codes}
use Rattle.std.specs.List.{join_with_byte}
use Rattle.go_rules.specs.Position.{BoardState}
use Rattle.vertices.specs.Words.{blank}
use Rattle.vertices.specs.Vertices.{vertex_text}
use Rattle.read_rules.specs.declared.node.Node.{Node}
use Rattle.read_rules.specs.declared.question.Spot.{Spot}
use Rattle.read_rules.specs.declared.question.Spot.TheVariants.{At, Pass}
use Rattle.read_rules.specs.declared.question.ReadingQuestion.{ReadingQuestion}
use Rattle.read_rules.specs.GameTree.{first_move, taking_back}
use Rattle.read_rules.specs.Rules.{IsFirstMove}
use Rattle.read_rules.specs.Answer.{first_node, code_of}
use Rattle.read_proof.specs.Tokens.{Word}
use Rattle.read_proof.specs.Proves.{is_settled, is_wanted, child_after, children_of}
use Rattle.read_proof.specs.ProofOf.{codes_down_to, claim_under, letter_of}

-- the word of a move on a board of size s, as it is printed
abbrev pub move_word : ℕ → Spot → Word
move_word s (At p) = vertex_text s p
move_word s Pass = codes "PASS"

-- a function from a node to the words of a claim's proof there
abbrev pub Writer : Type 0
Writer = Node → BoardState → List Word

-- the words of the proof at the child, or no words if there is none
abbrev pub write_child : Writer → Option (Node × BoardState) → List Word
write_child write None = []
write_child write (Some child) = write child.0 child.1

-- the words of the proofs at these children, one after another
abbrev pub write_each : Writer → List (Node × BoardState) → List Word
write_each write [] = []
write_each write (child ∷ more) = write child.0 child.1 ++ write_each write more

-- the words of a move and of the proof at the child to which it leads, or no words if there is no move
abbrev pub write_move : Writer → Node → BoardState → Option Spot → List Word
write_move write node pos None = []
write_move write node pos (Some spot) = move_word pos.size spot ∷ write_child write (child_after node pos spot)

-- the words of the play at the target's point and of the proof at the child to which it takes back, if there is one;
-- else the other words
abbrev pub write_back : Writer → Node → BoardState → Option (Node × BoardState) → List Word → List Word
write_back write node pos None others = others
write_back write node pos (Some child) others = move_word pos.size (At node.turn.target) ∷ write child.0 child.1

-- the words of the first proof of the claim at the node with n plies left, if the claim is true
unfoldable pub first_words : ℕ → Bool → Writer
first_words zero won node pos = codes "." ∷ []
first_words (suc n) won node pos =
    if is_settled (suc n) won node pos then codes "." ∷ []
    else write_back (first_words n won) node pos (taking_back node pos)
    (if is_wanted won node then write_move (first_words n won) node pos (first_move n node pos)
    else codes "*" ∷ write_each (first_words n won) (children_of node pos))

-- the first words of the claim are a move and the first words of the claim at the child to which it leads; the move is
-- the first that gives the side to play its way, the defender's pass before all points
pub record BeginsWithFirstMove (n : ℕ) (won : Bool) (node : Node) (pos : BoardState) : Type 0 where
  pub spot : Spot
  pub child : Node × BoardState
  pub first : IsFirstMove n node pos spot
  pub leads : child_after node pos spot ≡ Some child
  pub words : first_words (suc n) won node pos ≡ move_word pos.size spot ∷ first_words n won child.0 child.1

-- the words of the first proofs of what a proof of the code claims under the allowances of these codes, each after the
-- letter of its claim
unfoldable pub first_words_of : ReadingQuestion → BoardState → ℕ → List ℕ → List Word
first_words_of q pos code [] = []
first_words_of q pos code (more ∷ others) =
    letter_of (claim_under q code more)
    ∷ (first_words q.plies (claim_under q code more) (first_node q more) pos ++ first_words_of q pos code others)

-- the text of the first proof of the code of the question on the position, with one blank between each two words
unfoldable pub first_text : ReadingQuestion → BoardState → List ℕ
first_text q pos = join_with_byte blank (first_words_of q pos (code_of q pos) (codes_down_to (code_of q pos)))
