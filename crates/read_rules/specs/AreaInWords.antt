-- The active area in words: how far a reading may look from its target, and which nodes the trees of a question have.
use Rattle.std.specs.Prelude.{◌≡◌, ◌≢◌, ℕ, zero, suc, ◌+◌, ◌*◌, ◌<◌, ◌≤◌, ◌⊎◌, true, false, IsTrue, List}
use Rattle.go_rules.specs.declared.Cell.{Cell}
use Rattle.go_rules.specs.declared.Cell.TheVariants.{Empty}
use Rattle.go_rules.specs.Board.{are_neighbours}
use Rattle.go_rules.specs.Strings.{cell_at, IsInString}
use Rattle.go_rules.specs.Position.{BoardState}
use Rattle.go_rules.specs.Play.{pass}
use Rattle.read_rules.specs.Trees.{steps_of}
use Rattle.read_rules.specs.Candidates.{is_candidate}
use Rattle.read_rules.specs.declared.node.Node.{Node}
use Rattle.read_rules.specs.declared.question.ReadingQuestion.{ReadingQuestion}
use Rattle.read_rules.specs.GameTree.{allowance_of, next_node}
use Rattle.read_rules.specs.Rules.{HasManyLiberties, HasLostStones, IsChild, TakesBack, node_under}
use Rattle.read_rules.specs.ActiveArea.{IsNodeOf}

-- a step leads from q to p: to q itself or to a stone of its string, or to a neighbour of one of these
pub data IsOneStep (s : ℕ) (cells : List Cell) (q p : ℕ) : Type 0 where
  along : (p ≡ q) ⊎ IsInString s cells q p → IsOneStep s cells q p
  beyond : (y : ℕ) → (y ≡ q) ⊎ IsInString s cells q y → p < s * s → are_neighbours s y p ≡ true → IsOneStep s cells q p

-- this many steps lead from the string of the target to p
pub data IsReachedIn (s : ℕ) (cells : List Cell) (target : ℕ) : ℕ → ℕ → Type 0 where
  at_string : {p : ℕ} → IsInString s cells target p → IsReachedIn s cells target zero p
  one_more : {n q p : ℕ} → IsReachedIn s cells target n q → IsOneStep s cells q p → IsReachedIn s cells target (suc n) p

-- the node is a first node of the question, on its position and with all plies: at most one of attacker and defender
-- may ignore the ko ban, and only once
pub record IsFirstOf (q : ReadingQuestion) (pos : BoardState) (n : ℕ) (node : Node) (here : BoardState) : Type 0 where
  pub plies : n ≡ q.plies
  pub on_it : here ≡ pos
  pub attacker_ko : ℕ
  pub defender_ko : ℕ
  pub one_at_most : attacker_ko + defender_ko ≤ 1
  pub is_node : node ≡ node_under q attacker_ko defender_ko

-- a play at a candidate leads from the node before over there to the node over here
pub record IsByPlay (before : Node) (there : BoardState) (node : Node) (here : BoardState) : Type 0 where
  pub point : ℕ
  pub candidate : IsTrue (is_candidate before.turn there point)
  pub child : IsChild before there point node here

-- the defender's pass leads from the node before over there to the node over here
pub record IsByPass (before : Node) (there : BoardState) (node : Node) (here : BoardState) : Type 0 where
  pub defender_to_play : before.turn.attacker_to_play ≡ false
  pub node_is : node ≡ next_node before (allowance_of before)
  pub here_is : here ≡ pass there

-- a play at a candidate or the defender's pass leads to the node from the node before, whose target stands and, at the
-- attacker's turn, has not too many liberties
pub record IsByMove (before : Node) (there : BoardState) (node : Node) (here : BoardState) : Type 0 where
  pub stands : cell_at there.cells before.turn.target ≢ Empty
  pub few : before.turn.attacker_to_play ≡ true → HasManyLiberties before.turn there → ⊥
  pub move : IsByPlay before there node here ⊎ IsByPass before there node here

-- the node comes after a node of the question that has one ply more: by a play at a candidate, by the defender's pass,
-- or by a play of the defender that takes back a lone stone
pub record IsNextOf (q : ReadingQuestion) (pos : BoardState) (n : ℕ) (node : Node) (here : BoardState) : Type 0 where
  pub before : Node
  pub there : BoardState
  pub in_tree : IsNodeOf q pos (suc n) before there
  pub move : IsByMove before there node here ⊎ TakesBack before there node here

-- the target stands, and five steps, or six in the wider tree, lead from its string to p
pub record IsAroundTarget (node : Node) (here : BoardState) (p : ℕ) : Type 0 where
  pub stands : cell_at here.cells node.turn.target ≢ Empty
  pub reached : IsReachedIn here.size here.cells node.turn.target (steps_of node.turn.tree) p

-- the target is taken in the wider tree, it is the defender's turn, and two steps lead from the target's point to p
pub record IsAroundLoss (node : Node) (here : BoardState) (p : ℕ) : Type 0 where
  pub lost : HasLostStones node here
  pub between : ℕ
  pub on_board : between < here.size * here.size
  pub first : IsOneStep here.size here.cells node.turn.target between
  pub second : IsOneStep here.size here.cells between p

-- p is around the target at some node of the question
pub record IsLookedAt (q : ReadingQuestion) (pos : BoardState) (p : ℕ) : Type 0 where
  pub plies : ℕ
  pub node : Node
  pub here : BoardState
  pub in_tree : IsNodeOf q pos plies node here
  pub around : IsAroundTarget node here p ⊎ IsAroundLoss node here p
