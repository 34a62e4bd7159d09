-- The active area by steps from the target's string, and the nodes by the moves that lead to them.
use Rattle.std.proofs.Common.{◌≡◌, ◌≢◌, ℕ, ◌+◌, ◌*◌, ◌<◌, ◌≤◌, ◌⊎◌, ◌↔◌, true, false, List, sym, subst, arith, inl, inr}
use Rattle.std.proofs.lemmas.Bool.{cases_Bool, cases_eq, both_ways}
use Rattle.go_rules.specs.declared.Cell.{Cell}
use Rattle.go_rules.specs.declared.Cell.TheVariants.{Empty}
use Rattle.go_rules.specs.Strings.{cell_at, is_in_string}
use Rattle.go_rules.specs.Position.{BoardState}
use Rattle.go_rules.specs.Play.{pass}
use Rattle.go_rules.proofs.Paths.{same_cell-true, same_cell-from}
use Rattle.read_rules.specs.Turns.{mover_of}
use Rattle.read_rules.specs.declared.node.Node.{Node}
use Rattle.read_rules.specs.declared.tree.Tree.{Tree}
use Rattle.read_rules.specs.Trees.{steps_of}
use Rattle.read_rules.specs.declared.question.Kind.{Kind}
use Rattle.read_rules.specs.declared.question.Kind.TheVariants.{Attack, Defend}
use Rattle.read_rules.specs.declared.question.ReadingQuestion.{ReadingQuestion}
use Rattle.read_rules.specs.GameTree.{is_captured}
use Rattle.read_rules.specs.Rules.{HasManyLiberties, node_under}
use Rattle.read_rules.specs.Answer.{first_node}
use Rattle.read_rules.specs.ActiveArea.{reach_of, IsUndecided, IsNodeOf, first, by_play, by_pass, by_taking_back}
use Rattle.read_rules.specs.ActiveArea.{IsNearTarget, in_reach, by_loss, InActiveArea}
use Rattle.read_rules.specs.AreaInWords.{IsReachedIn, IsFirstOf, IsByMove, IsNextOf, IsAroundTarget, IsAroundLoss}
use Rattle.read_rules.specs.AreaInWords.{IsLookedAt}
use Rattle.read_rules.proofs.AreaSteps.{steps_give, steps_from, two_steps-give, two_steps-from}
use Rattle.read_rules.proofs.RuleLemmas.{many_gives, many_from, child_gives, child_from, lost_gives, lost_from}
use Rattle.read_rules.proofs.RuleLemmas.{takes_back_gives, takes_back_from}
use Rattle.read_rules.proofs.LibertyLemmas.{child_free, play_size}

-- the reach of a string is what the steps of the tree lead to
reach-is : (tree : Tree) (s : ℕ) (cells : List Cell) (t p : ℕ) → t < s * s
    → (reach_of tree s cells (is_in_string s cells t) p ≡ true) ↔ IsReachedIn s cells t (steps_of tree) p
unfolding reach_of
reach-is tree s cells t p on = (steps_give s cells t (steps_of tree) p, steps_from s cells t on)

-- a target that stands is not an empty point
stands_gives : (pos : BoardState) (t : ℕ) → is_captured pos t ≡ false → cell_at pos.cells t ≢ Empty
stands_gives pos t h e = both_ways (is_captured pos t) h (same_cell-from _ _ e)

-- a point that is not empty stands
stands_from : (pos : BoardState) (t : ℕ) → cell_at pos.cells t ≢ Empty → is_captured pos t ≡ false
stands_from pos t h = grind (arith, cases_Bool, same_cell-true)

-- a node of a question has its target on its board, where the question has
tree_on : {q : ReadingQuestion} {pos : BoardState} {n : ℕ} {node : Node} {here : BoardState}
    → q.target < pos.size * pos.size → IsNodeOf q pos n node here → node.turn.target < here.size * here.size
tree_on on (first code lo hi) = on
tree_on on (by_play {n} {node} {here} tree undecided p c next new child) =
    grind (
      arith,
      child_free node here p next new (child_gives node here p next new child),
      play_size here (mover_of node.turn) p new,
      tree_on on tree,
    )
tree_on on (by_pass tree undecided turn) = tree_on on tree
tree_on on (by_taking_back {n} {node} {here} tree next new back) =
    grind (
      arith,
      takes_back_gives node here next new back,
      child_free node here node.turn.target next new,
      play_size here (mover_of node.turn) node.turn.target new,
      tree_on on tree,
    )

-- what is near a target at a node is reached by steps from it
around_gives : (node : Node) (here : BoardState) (p : ℕ) → node.turn.target < here.size * here.size
    → IsNearTarget node here p → IsAroundTarget node here p ⊎ IsAroundLoss node here p
around_gives node here p on (in_reach stands near) = grind (arith, stands_gives, reach-is)
around_gives node here p on (by_loss lost near) =
    let w = two_steps-give here.size here.cells node.turn.target p on near in
    inr (record { lost = lost_gives node here lost; between = w.0; on_board = w.1; first = w.2; second = w.3 })

-- and what these steps reach is near it
around_from : (node : Node) (here : BoardState) (p : ℕ) → node.turn.target < here.size * here.size
    → IsAroundTarget node here p ⊎ IsAroundLoss node here p → IsNearTarget node here p
around_from node here p on (inl w) = grind (arith, stands_from, reach-is)
around_from node here p on (inr w) = by_loss (lost_from node here w.lost)
    (two_steps-from here.size here.cells node.turn.target w.between p on w.on_board w.first w.second)

-- a point of the active area is reached by steps from the target at some node of the question
area_gives : (q : ReadingQuestion) (pos : BoardState) (p : ℕ) → q.target < pos.size * pos.size
    → InActiveArea q pos p → IsLookedAt q pos p
area_gives q pos p on h = grind (arith, around_gives, tree_on)

-- what these steps reach is in the active area
area_from : (q : ReadingQuestion) (pos : BoardState) (p : ℕ) → q.target < pos.size * pos.size
    → IsLookedAt q pos p → InActiveArea q pos p
area_from q pos p on h = grind (arith, around_from, tree_on)

-- the active area is what these steps reach
pub area-is : (q : ReadingQuestion) (pos : BoardState) (p : ℕ) → q.target < pos.size * pos.size
    → InActiveArea q pos p ↔ IsLookedAt q pos p
area-is q pos p on = (area_gives q pos p on, area_from q pos p on)

-- the same question, asked as an attack or as a defence
abbrev pub asked_as : ReadingQuestion → Kind → ReadingQuestion
asked_as q kind = record {
  tree = q.tree;
  size = q.size;
  kind = kind;
  target = q.target;
  colour = q.colour;
  plies = q.plies;
  wide = q.wide;
}

-- the first node under a code is one of the three, by the kind of the question
first_gives : (q : ReadingQuestion) (pos : BoardState) (code : ℕ) → 1 ≤ code → code ≤ 3
    → IsFirstOf q pos q.plies (first_node q code) pos
first_gives q pos code lo hi = grind (arith, cases_eq)

-- each of the three first nodes is that of a code
first_from : (q : ReadingQuestion) (pos : BoardState) (a d : ℕ) → a + d ≤ 1
    → IsNodeOf q pos q.plies (node_under q a d) pos
first_from q pos a d h = elim (cases_eq a 1) [
  | inl e ↦ paired 1 0 e (omega (arith, e, h)) (attacker q.kind)
  | inr ne ↦ grind (arith, cases_eq d 1, paired 0 1, defender q.kind, paired 0 0, neither q.kind)
]
  where
    paired : (x y : ℕ) → a ≡ x → d ≡ y → IsNodeOf q pos q.plies (node_under q x y) pos
        → IsNodeOf q pos q.plies (node_under q a d) pos
    paired x y e f tree = grind arith

    attacker : (kind : Kind) → IsNodeOf (asked_as q kind) pos q.plies (node_under (asked_as q kind) 1 0) pos
    attacker Attack = first 1 (omega arith) (omega arith)
    attacker Defend = first 3 (omega arith) (omega arith)

    defender : (kind : Kind) → IsNodeOf (asked_as q kind) pos q.plies (node_under (asked_as q kind) 0 1) pos
    defender Attack = first 3 (omega arith) (omega arith)
    defender Defend = first 1 (omega arith) (omega arith)

    neither : (kind : Kind) → IsNodeOf (asked_as q kind) pos q.plies (node_under (asked_as q kind) 0 0) pos
    neither Attack = first 2 (omega arith) (omega arith)
    neither Defend = first 2 (omega arith) (omega arith)

-- an undecided node's target has not too many liberties at the attacker's turn
few_gives : (node : Node) (here : BoardState) → IsUndecided node here → node.turn.attacker_to_play ≡ true
    → HasManyLiberties node.turn here → ⊥
few_gives node here undecided turn many = grind (arith, both_ways, many_from)

-- where the target stands and has not too many liberties, the node is undecided
undecided_from : (node : Node) (here : BoardState) → cell_at here.cells node.turn.target ≢ Empty
    → (node.turn.attacker_to_play ≡ true → HasManyLiberties node.turn here → ⊥) → IsUndecided node here
undecided_from node here stands few = grind (arith, stands_from, cases_Bool, many_gives)

-- a node of a question is a first one, or comes of another by a move
pub node_gives : {q : ReadingQuestion} {pos : BoardState} {n : ℕ} {node : Node} {here : BoardState}
    → IsNodeOf q pos n node here → IsFirstOf q pos n node here ⊎ IsNextOf q pos n node here
node_gives {q} {pos} (first code lo hi) = inl (first_gives q pos code lo hi)
node_gives {q} {pos} (by_play {n} {node} {here} tree undecided p c next new child) =
    grind (arith, stands_gives, few_gives, child_gives)
node_gives {q} {pos} (by_pass {n} {node} {here} tree undecided turn) = grind (arith, stands_gives, few_gives)
node_gives {q} {pos} (by_taking_back {n} {node} {here} tree next new back) = grind (arith, takes_back_gives)

-- a first node is a node of the question
first_is : (q : ReadingQuestion) (pos : BoardState) (n : ℕ) (node : Node) (here : BoardState)
    → IsFirstOf q pos n node here → IsNodeOf q pos n node here
first_is q pos n node here w = grind (arith, first_from)

-- what comes of an undecided node by a move is one
moved_is : (q : ReadingQuestion) (pos : BoardState) (n : ℕ) (node : Node) (here : BoardState) (w : IsNextOf q pos n node here)
    → IsByMove w.before w.there node here → IsNodeOf q pos n node here
moved_is q pos n node here w by = let undecided = undecided_from w.before w.there by.stands by.few in elim by.move [
  | inl m ↦ by_play w.in_tree undecided m.point m.candidate node here
      (child_from w.before w.there m.point node here m.child)
  | inr m ↦ subst (λ (b : BoardState). IsNodeOf q pos n node b) (sym m.here_is)
      (subst (λ (k : Node). IsNodeOf q pos n k (pass w.there)) (sym m.node_is)
      (by_pass w.in_tree undecided m.defender_to_play))
]

-- what comes of a node of the question is one
next_is : (q : ReadingQuestion) (pos : BoardState) (n : ℕ) (node : Node) (here : BoardState)
    → IsNextOf q pos n node here → IsNodeOf q pos n node here
next_is q pos n node here w = elim w.move [
  | inl by ↦ moved_is q pos n node here w by
  | inr back ↦ by_taking_back w.in_tree node here (takes_back_from w.before w.there node here back)
]

-- a first node, and what comes of another by a move, is a node of the question
pub node_from : (q : ReadingQuestion) (pos : BoardState) (n : ℕ) (node : Node) (here : BoardState)
    → IsFirstOf q pos n node here ⊎ IsNextOf q pos n node here → IsNodeOf q pos n node here
node_from q pos n node here (inl w) = first_is q pos n node here w
node_from q pos n node here (inr w) = next_is q pos n node here w
