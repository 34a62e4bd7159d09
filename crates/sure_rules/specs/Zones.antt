-- Zones: the points that a sure capture rests on, and the rules by which a zone is found. A reply of the defender that
-- changes nothing in the zone of his pass loses as the pass does, so only the other replies have to be read.
use Rattle.std.specs.Prelude.{◌≡◌, ℕ, ◌*◌, ◌<◌, Bool, false, IsTrue}
use Rattle.go_rules.specs.declared.Cell.TheVariants.{Empty}
use Rattle.go_rules.specs.Strings.{cell_at}
use Rattle.go_rules.specs.Position.{BoardState, IsPosition, other, stone_of}
use Rattle.go_rules.specs.Play.{pass}
use Rattle.go_rules.specs.Rules.{IsOnlyLiberty}
use Rattle.read_rules.specs.ActiveArea.{AgreeOn}
use Rattle.read_rules.specs.Candidates.{is_candidate}
use Rattle.read_rules.specs.declared.node.Node.{Node}
use Rattle.read_rules.specs.GameTree.{allowance_of, next_node}
use Rattle.read_rules.specs.Turns.{mover_of}
use Rattle.read_rules.specs.Rules.{IsChild, TakesBack}
use Rattle.sure_rules.specs.Nodes.{target_of, has_too_many}
use Rattle.sure_rules.specs.SureTree.{surely_wins}

-- the points of a set
abbrev pub points_of : (ℕ → Bool) → ℕ → Type 0
points_of Z p = IsTrue (Z p)

-- P is true of every position that agrees with this one on Z
abbrev pub WhereverAgrees : BoardState → (ℕ → Bool) → (BoardState → Type 0) → Type 0
WhereverAgrees pos Z P = (here : BoardState) → IsPosition here → AgreeOn (points_of Z) pos here → P here

-- Z is a zone of the node: on every position that agrees with this one on Z, the target is surely captured with n plies
-- left
abbrev pub IsZone : ℕ → Node → BoardState → (ℕ → Bool) → Type 0
IsZone n node pos Z = WhereverAgrees pos Z (λ here. IsTrue (surely_wins n node here))

-- Z shows that a taken target is not taken back: it contains the target's point, and on no position that agrees with
-- this one on Z can the defender take back
pub record IsTakenZone (node : Node) (pos : BoardState) (Z : ℕ → Bool) : Type 0 where
  pub point : IsTrue (Z (target_of node))
  pub kept : WhereverAgrees pos Z (λ here. (next : Node) (made : BoardState) → TakesBack node here next made → ⊥)

-- Z shows that taking back does not save a target that is taken: it contains the target's point, and on every position
-- that agrees with this one on Z, if the defender can take back, the target is surely captured at the child, with n
-- plies left
pub record IsTakingBackZone (n : ℕ) (node : Node) (pos : BoardState) (Z : ℕ → Bool) : Type 0 where
  pub point : IsTrue (Z (target_of node))
  pub fails : WhereverAgrees pos Z (λ here. (next : Node) (made : BoardState) → TakesBack node here next made
      → IsTrue (surely_wins n next made))

-- Z shows that one play of the attacker captures: on every position that agrees with this one on Z, the target has not
-- too many liberties, the point is a candidate, and the play there leads to the same next node and to a position that
-- agrees with the new one on a zone of that node
pub record IsPlayZone (n : ℕ) (node : Node) (pos : BoardState) (Z : ℕ → Bool) : Type 0 where
  pub point : ℕ
  pub next : Node
  pub new : BoardState
  pub after : ℕ → Bool
  pub few : WhereverAgrees pos Z (λ here. has_too_many node here ≡ false)
  pub candidate : WhereverAgrees pos Z (λ here. IsTrue (is_candidate node.turn here point))
  pub leads : WhereverAgrees pos Z (λ here. (made : BoardState) × IsChild node here point next made
      × AgreeOn (points_of after) new made)
  pub zone : IsZone n next new after

-- Z shows that no reply of the defender holds: it contains a zone of the node after his pass. A reply is read at each
-- empty point of that zone, and, on every position that agrees with this one on Z, at the only liberty of an attacker's
-- string that has a stone in that zone. On each position that agrees with this one on Z, each reply that is read and
-- can be made fails
pub record IsReplyZone (n : ℕ) (node : Node) (pos : BoardState) (Z : ℕ → Bool) : Type 0 where
  pub passed : ℕ → Bool
  pub is_read : ℕ → Bool
  pub zone : IsZone n (next_node node (allowance_of node)) (pass pos) passed
  pub within : (q : ℕ) → IsTrue (passed q) → IsTrue (Z q)
  pub on_board : (q : ℕ) → IsTrue (passed q) → q < pos.size * pos.size
  pub empty_points : (q : ℕ) → IsTrue (passed q) → cell_at pos.cells q ≡ Empty → IsTrue (is_read q)
  pub last_liberties : WhereverAgrees pos Z (λ here. (q p : ℕ) → IsTrue (passed q)
      → cell_at here.cells q ≡ stone_of (other (mover_of node.turn)) → IsOnlyLiberty here.size here.cells q p
      → IsTrue (is_read p))
  pub fails : (p : ℕ) → IsTrue (is_read p) → WhereverAgrees pos Z (λ here. (next : Node) (made : BoardState)
      → IsChild node here p next made → IsTrue (surely_wins n next made))
