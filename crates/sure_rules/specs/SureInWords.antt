-- Sure captures in Go's words: what the computing definitions of SureTree and SureAnswer are proved to mean.
use Rattle.std.specs.Prelude.{◌≡◌, ◌≢◌, ℕ, ◌*◌, ◌<◌, ◌≤◌, false, IsTrue}
use Rattle.go_rules.specs.Position.{BoardState}
use Rattle.go_rules.specs.Play.{pass}
use Rattle.read_rules.specs.Candidates.{is_candidate}
use Rattle.read_rules.specs.declared.node.Node.{Node}
use Rattle.read_rules.specs.declared.question.ReadingQuestion.{ReadingQuestion}
use Rattle.read_rules.specs.declared.question.Spot.{Spot}
use Rattle.read_rules.specs.declared.question.Spot.TheVariants.{At, Pass}
use Rattle.read_rules.specs.GameTree.{allowance_of, next_node}
use Rattle.read_rules.specs.Rules.{IsChild}
use Rattle.sure_rules.specs.Nodes.{is_attackers}
use Rattle.sure_rules.specs.SureTree.{is_tried, surely_wins}
use Rattle.sure_rules.specs.SureAnswer.{pass_holds, surely_attains}

-- some candidate can be played, and with n plies left at its child the target is surely captured
pub record SomeCandidateCaptures (n : ℕ) (node : Node) (pos : BoardState) : Type 0 where
  pub point : ℕ
  pub next : Node
  pub new : BoardState
  pub candidate : IsTrue (is_candidate node.turn pos point)
  pub child : IsChild node pos point next new
  pub wins : IsTrue (surely_wins n next new)

-- after the pass, and after each play on the board that can be made, the target is surely captured with n plies left
pub record EveryReplyFails (n : ℕ) (node : Node) (pos : BoardState) : Type 0 where
  pub passed : IsTrue (surely_wins n (next_node node (allowance_of node)) (pass pos))
  pub played : (p : ℕ) (next : Node) (new : BoardState) → p < pos.size * pos.size → IsChild node pos p next new
      → IsTrue (surely_wins n next new)

-- p is tried and can be played, and with n plies left after it the target is surely captured exactly if the attacker
-- played
pub record SurelySucceeds (n : ℕ) (node : Node) (pos : BoardState) (p : ℕ) : Type 0 where
  pub next : Node
  pub new : BoardState
  pub tried : IsTrue (is_tried node pos p)
  pub child : IsChild node pos p next new
  pub outcome : surely_wins n next new ≡ is_attackers node

-- p is the first point in reading order that succeeds, and the pass does not succeed
pub record IsFirstSurePoint (n : ℕ) (node : Node) (pos : BoardState) (p : ℕ) : Type 0 where
  pub no_pass : pass_holds n node pos ≡ false
  pub succeeds : SurelySucceeds n node pos p
  pub first : (q : ℕ) → q < p → SurelySucceeds n node pos q → ⊥

-- the move is the first that succeeds with n plies left after it: the defender's pass before all points
abbrev pub IsFirstSureMove : ℕ → Node → BoardState → Spot → Type 0
IsFirstSureMove n node pos Pass = IsTrue (pass_holds n node pos)
IsFirstSureMove n node pos (At p) = IsFirstSurePoint n node pos p

-- the code is the greatest from 1 to 3 that the question surely attains, or 0 if it attains none
pub record IsGreatestSureCode (q : ReadingQuestion) (pos : BoardState) (code : ℕ) : Type 0 where
  pub bounded : code ≤ 3
  pub attained : code ≢ 0 → IsTrue (surely_attains q pos code)
  pub greatest : (more : ℕ) → code < more → more ≤ 3 → surely_attains q pos more ≡ false
