-- Sure captures. The attacker tries the candidates of the game tree, and the defender may play at every point of the
-- board: a capture that holds here holds whatever the defender plays. In the wider tree a lone stone that is taken
-- may be taken back, as in the game tree.
use Rattle.std.specs.Prelude.{◌≡◌, ℕ, zero, suc, ◌*◌, Bool, false, IsTrue, not, ◌&&◌, nat_lt, List, None, Some}
use Rattle.std.specs.Prelude.{if◌then◌else◌}
use Rattle.std.specs.List.{range_with_len, filter, list_any, list_all}
use Rattle.go_rules.specs.Position.{BoardState}
use Rattle.go_rules.specs.Play.{pass}
use Rattle.read_rules.specs.Candidates.{is_candidate}
use Rattle.read_rules.specs.declared.node.Node.{Node}
use Rattle.read_rules.specs.GameTree.{allowance_of, next_node, child_of, some_child, each_child, taking_back}
use Rattle.sure_rules.specs.Nodes.{is_attackers, is_gone, is_taken_for_good, has_too_many, in_wider_tree}

-- p is tried: at the attacker's turn it is a candidate, at the defender's turn a point of the board
abbrev pub is_tried : Node → BoardState → ℕ → Bool
is_tried node pos p = if is_attackers node then is_candidate node.turn pos p else nat_lt p (pos.size * pos.size)

-- the points that are tried, in reading order
abbrev pub tried_points : Node → BoardState → List ℕ
tried_points node pos = filter (is_tried node pos) (range_with_len 0 (pos.size * pos.size))

-- with n plies left the target is surely captured: it is taken already, and if the defender can take back, a ply is
-- left for that and the target is surely captured afterwards too; or it is the attacker's turn, the target has not too
-- many liberties, and some candidate leads to a node at which it is surely captured; or it is the defender's turn, and
-- the pass and each play on the board that can be made lead to nodes at which it is surely captured
unfoldable pub surely_wins : ℕ → Node → BoardState → Bool
surely_wins zero node pos = is_taken_for_good node pos
surely_wins (suc n) node pos = if is_gone node pos
    then each_child (surely_wins n) (taking_back node pos)
    else if is_attackers node
    then not (has_too_many node pos)
    && list_any (λ p. some_child (surely_wins n) (child_of node pos p)) (tried_points node pos)
    else surely_wins n (next_node node (allowance_of node)) (pass pos)
    && list_all (λ p. each_child (surely_wins n) (child_of node pos p)) (tried_points node pos)

-- below is true of each node to which a move leads at the node: to the pass and to each play on the board at the
-- defender's turn, and to each candidate at the attacker's
pub record IsAfterEachMove (below : Node → BoardState → Type 0) (node : Node) (pos : BoardState) : Type 0 where
  pub passed : is_attackers node ≡ false → below (next_node node (allowance_of node)) (pass pos)
  pub played : (p : ℕ) (next : Node) (new : BoardState) → IsTrue (is_tried node pos p)
      → child_of node pos p ≡ Some (next, new) → below next new

-- within n plies from here the target is never taken in such a way that the defender could take it back in the wider
-- tree
abbrev pub IsNeverTakenBack : ℕ → Node → BoardState → Type 0
IsNeverTakenBack zero node pos = taking_back (in_wider_tree node) pos ≡ None
IsNeverTakenBack (suc n) node pos = (taking_back (in_wider_tree node) pos ≡ None)
    × (is_gone node pos ≡ false → IsAfterEachMove (IsNeverTakenBack n) node pos)
