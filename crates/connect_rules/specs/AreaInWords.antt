-- The active area of a connection in words: how far a reading may look from the two strings, and which nodes its tree
-- has.
use Rattle.std.specs.Prelude.{◌≡◌, ℕ, suc, ◌⊎◌, not, Bool, false}
use Rattle.go_rules.specs.Strings.{cell_at, IsInString}
use Rattle.go_rules.specs.Position.{BoardState, stone_of}
use Rattle.go_rules.specs.Play.{pass}
use Rattle.read_rules.specs.AreaInWords.{IsReachedIn}
use Rattle.connect_rules.specs.declared.link.Link.{Link}
use Rattle.connect_rules.specs.declared.question.LinkQuestion.{LinkQuestion}
use Rattle.connect_rules.specs.ConnectionArea.{IsNodeOf}
use Rattle.connect_rules.specs.InWords.{BothStand, IsMove}
use Rattle.connect_rules.specs.Linkages.{is_connect, link_of}

-- the point x holds a stone of the strings' colour, and four steps lead from the string of x to p
pub record IsReachedFrom (link : Link) (here : BoardState) (x p : ℕ) : Type 0 where
  pub stands : cell_at here.cells x ≡ stone_of link.colour
  pub reached : IsReachedIn here.size here.cells x 4 p

-- at some node of the question four steps lead to p from the string of one of its two points
pub record IsLookedAt (q : LinkQuestion) (pos : BoardState) (p : ℕ) : Type 0 where
  pub plies : ℕ
  pub own : Bool
  pub here : BoardState
  pub in_tree : IsNodeOf q pos plies own here
  pub reached : IsReachedFrom (link_of q) here q.a p ⊎ IsReachedFrom (link_of q) here q.b p

-- the node is the first one of the question: its position, with all plies, and the side that is asked about to play
pub record IsFirstOf (q : LinkQuestion) (pos : BoardState) (n : ℕ) (own : Bool) (here : BoardState) : Type 0 where
  pub plies : n ≡ q.plies
  pub turn : own ≡ is_connect q.kind
  pub on_it : here ≡ pos

-- a legal connecting move of the side to play leads to here
pub record IsByPlay (link : Link) (side : Bool) (there here : BoardState) : Type 0 where
  pub point : ℕ
  pub move : IsMove link side there point here

-- the other colour's pass leads to here
pub record IsByPass (side : Bool) (there here : BoardState) : Type 0 where
  pub others_turn : side ≡ false
  pub passed : here ≡ pass there

-- a connecting move of the side to play, or the other colour's pass, leads to this node from a node of the question
-- with one ply more, at which both strings stand and are not one
pub record IsNextOf (q : LinkQuestion) (pos : BoardState) (n : ℕ) (own : Bool) (here : BoardState) : Type 0 where
  pub side : Bool
  pub there : BoardState
  pub in_tree : IsNodeOf q pos (suc n) side there
  pub stand : BothStand (link_of q) there
  pub apart : IsInString there.size there.cells q.a q.b → ⊥
  pub turn : own ≡ not side
  pub move : IsByPlay (link_of q) side there here ⊎ IsByPass side there here
