-- Trees in which the ban forbids no move, and a node under other ko allowances.
use Rattle.std.specs.Prelude.{◌≡◌, ◌≢◌, ℕ, zero, suc, true, false, IsTrue, Ok, Err}
use Rattle.go_rules.specs.declared.Illegal.TheVariants.{Ko}
use Rattle.go_rules.specs.Position.{BoardState}
use Rattle.go_rules.specs.Play.{play, pass}
use Rattle.read_rules.specs.Candidates.{is_candidate}
use Rattle.read_rules.specs.declared.node.Node.{Node}
use Rattle.read_rules.specs.GameTree.{is_captured, allowance_of, next_node, has_lost_one_stone}
use Rattle.read_rules.specs.Turns.{mover_of}

-- the node under other ko allowances of attacker and defender
abbrev pub with_allowances : Node → ℕ → ℕ → Node
with_allowances node a d = record { turn = node.turn; attacker_ko = a; defender_ko = d }

-- no play at a candidate is refused for the ban, and below is true of each node that a legal play at a candidate or the
-- defender's pass leads to
pub record IsFreeHere (below : Node → BoardState → Type 0) (node : Node) (pos : BoardState) : Type 0 where
  pub none : (p : ℕ) → IsTrue (is_candidate node.turn pos p) → play pos (mover_of node.turn) p ≢ Err Ko
  pub played : (p : ℕ) (new : BoardState) → IsTrue (is_candidate node.turn pos p)
      → play pos (mover_of node.turn) p ≡ Ok new
      → below (next_node node (allowance_of node)) new
  pub passed : node.turn.attacker_to_play ≡ false → below (next_node node (allowance_of node)) (pass pos)

-- the ban does not forbid the defender to take back, and below is true of the node that a legal taking back leads to
pub record IsFreeToTakeBack (below : Node → BoardState → Type 0) (node : Node) (pos : BoardState) : Type 0 where
  pub none : play pos (mover_of node.turn) node.turn.target ≢ Err Ko
  pub played : (new : BoardState) → play pos (mover_of node.turn) node.turn.target ≡ Ok new
      → below (next_node node (allowance_of node)) new

-- in the tree of the node, with n plies left, the ban forbids no candidate, and does not forbid the defender to take
-- back a lone stone
abbrev pub IsBanFree : ℕ → Node → BoardState → Type 0
IsBanFree zero node pos = has_lost_one_stone node pos ≡ true
    → IsFreeToTakeBack (λ (next : Node) (new : BoardState). Unit {0}) node pos
IsBanFree (suc n) node pos = (is_captured pos node.turn.target ≡ false → IsFreeHere (IsBanFree n) node pos)
    × (has_lost_one_stone node pos ≡ true → IsFreeToTakeBack (IsBanFree n) node pos)
