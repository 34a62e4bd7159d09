-- The active area of a connection: the points that its answer may depend on. It is computed from the tree and is exact.
use Rattle.std.specs.Prelude.{◌≡◌, ℕ, suc, not, Bool, true, false, IsTrue, List, Ok}
use Rattle.go_rules.specs.declared.Cell.{Cell}
use Rattle.go_rules.specs.Strings.{cell_at, same_cell, is_in_string}
use Rattle.go_rules.specs.Neighbourhood.{neighbourhood_of}
use Rattle.go_rules.specs.Position.{BoardState, stone_of}
use Rattle.go_rules.specs.Play.{play, pass}
use Rattle.connect_rules.specs.declared.link.Link.{Link}
use Rattle.connect_rules.specs.declared.question.LinkQuestion.{LinkQuestion}
use Rattle.connect_rules.specs.ConnectingMoves.{is_connecting_move}
use Rattle.connect_rules.specs.Connection.{both_stand, is_one_string, mover_of}
use Rattle.connect_rules.specs.Linkages.{is_connect, link_of}

-- the points that the reading of one node may look at, if S has the points of a string: the neighbourhood of S taken
-- four times. A connecting move lies in the second neighbourhood, and a play looks two neighbourhoods farther
unfoldable pub reach_of : ℕ → List Cell → (ℕ → Bool) → ℕ → Bool
reach_of s cells S =
    neighbourhood_of s cells (neighbourhood_of s cells (neighbourhood_of s cells (neighbourhood_of s cells S)))

-- the point x holds a stone of the strings' colour, and p is in the reach of its string
pub record IsInReach (link : Link) (pos : BoardState) (x p : ℕ) : Type 0 where
  pub stands : same_cell (cell_at pos.cells x) (stone_of link.colour) ≡ true
  pub near : IsTrue (reach_of pos.size pos.cells (is_in_string pos.size pos.cells x) p)

-- p is in the reach of one of the two strings
pub data IsNearLink (link : Link) (pos : BoardState) (p : ℕ) : Type 0 where
  by_a : IsInReach link pos link.a p → IsNearLink link pos p
  by_b : IsInReach link pos link.b p → IsNearLink link pos p

-- both strings stand, and they are not one
pub record IsUndecided (link : Link) (pos : BoardState) : Type 0 where
  pub stand : both_stand link pos ≡ true
  pub apart : is_one_string link pos ≡ false

-- a position, with a number of plies left and a side to play (true for the strings' own colour), is a node of the
-- question's tree from pos: it is the first node, or the child of an undecided node by a legal connecting move or by
-- the other colour's pass
pub data IsNodeOf (q : LinkQuestion) (pos : BoardState) : ℕ → Bool → BoardState → Type 0 where
  first : IsNodeOf q pos q.plies (is_connect q.kind) pos
  by_play : {n : ℕ} {own : Bool} {here : BoardState} → IsNodeOf q pos (suc n) own here → IsUndecided (link_of q) here
      → (p : ℕ) → IsTrue (is_connecting_move (link_of q) here p) → (new : BoardState)
      → play here (mover_of (link_of q) own) p ≡ Ok new → IsNodeOf q pos n (not own) new
  by_pass : {n : ℕ} {here : BoardState} → IsNodeOf q pos (suc n) false here → IsUndecided (link_of q) here
      → IsNodeOf q pos n true (pass here)

-- p is near the two strings at some node of the question's tree
pub record InConnectionArea (q : LinkQuestion) (pos : BoardState) (p : ℕ) : Type 0 where
  pub plies : ℕ
  pub own : Bool
  pub here : BoardState
  pub in_tree : IsNodeOf q pos plies own here
  pub near : IsNearLink (link_of q) here p
