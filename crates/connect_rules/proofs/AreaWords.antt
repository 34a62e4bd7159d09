-- The active area by steps from the two strings, and the nodes by the moves that lead to them.
use Rattle.std.proofs.Common.{◌≡◌, ℕ, suc, ◌*◌, ◌<◌, ◌⊎◌, ◌↔◌, Bool, true, false, not, List}
use Rattle.std.proofs.Common.{refl, sym, subst, inl, inr, arith}
use Rattle.std.proofs.lemmas.Bool.{both_ways}
use Rattle.go_rules.specs.declared.Cell.{Cell}
use Rattle.go_rules.specs.Strings.{is_in_string, IsInString}
use Rattle.go_rules.specs.Position.{BoardState}
use Rattle.go_rules.specs.Play.{pass}
use Rattle.go_rules.proofs.Paths.{same_cell-true, same_cell-from, is_is_in_string-from_fact}
use Rattle.read_rules.specs.AreaInWords.{IsReachedIn}
use Rattle.read_rules.proofs.AreaSteps.{steps_give, steps_from}
use Rattle.connect_rules.specs.declared.link.Link.{Link}
use Rattle.connect_rules.specs.declared.question.LinkQuestion.{LinkQuestion}
use Rattle.connect_rules.specs.ConnectionArea.{reach_of, IsInReach, IsNearLink, by_a, by_b}
use Rattle.connect_rules.specs.ConnectionArea.{IsUndecided, IsNodeOf, first, by_play, by_pass, InConnectionArea}
use Rattle.connect_rules.specs.AreaInWords.{IsReachedFrom, IsLookedAt, IsFirstOf, IsNextOf}
use Rattle.connect_rules.specs.InWords.{BothStand}
use Rattle.connect_rules.specs.Linkages.{link_of}
use Rattle.connect_rules.proofs.ExchangeLemmas.{size_after}
use Rattle.connect_rules.proofs.TreeLemmas.{stand_from, stand_gives, apart_from}

-- the reach of a string is what four steps lead to
reach-is : (s : ℕ) (cells : List Cell) (x p : ℕ) → x < s * s
    → (reach_of s cells (is_in_string s cells x) p ≡ true) ↔ IsReachedIn s cells x 4 p
unfolding reach_of
reach-is s cells x p on = (steps_give s cells x 4 p, steps_from s cells x on)

-- what is in the reach of a point is reached from it
reach_gives : (link : Link) (here : BoardState) (x p : ℕ) → x < here.size * here.size → IsInReach link here x p
    → IsReachedFrom link here x p
reach_gives link here x p on w = grind (arith, same_cell-true, reach-is)

-- what is reached from a point is in its reach
reach_from : (link : Link) (here : BoardState) (x p : ℕ) → x < here.size * here.size → IsReachedFrom link here x p
    → IsInReach link here x p
reach_from link here x p on w = grind (arith, same_cell-from, reach-is)

-- a point of the board of a question is one of each board of its tree
tree_on : {q : LinkQuestion} {pos : BoardState} {n : ℕ} {own : Bool} {here : BoardState} (x : ℕ)
    → x < pos.size * pos.size → IsNodeOf q pos n own here → x < here.size * here.size
tree_on x on first = on
tree_on {q} x on (by_play {n} {own} {here} tree undecided p c new e) = grind (arith, size_after, tree_on x on tree)
tree_on x on (by_pass tree undecided) = tree_on x on tree

-- what is near the two strings is reached from one of them
near_gives : (link : Link) (here : BoardState) (p : ℕ) → link.a < here.size * here.size
    → link.b < here.size * here.size → IsNearLink link here p
    → IsReachedFrom link here link.a p ⊎ IsReachedFrom link here link.b p
near_gives link here p a_on b_on (by_a w) = inl (reach_gives link here link.a p a_on w)
near_gives link here p a_on b_on (by_b w) = inr (reach_gives link here link.b p b_on w)

-- what is reached from one of the two strings is near them
near_from : (link : Link) (here : BoardState) (p : ℕ) → link.a < here.size * here.size
    → link.b < here.size * here.size → IsReachedFrom link here link.a p ⊎ IsReachedFrom link here link.b p
    → IsNearLink link here p
near_from link here p a_on b_on (inl w) = by_a (reach_from link here link.a p a_on w)
near_from link here p a_on b_on (inr w) = by_b (reach_from link here link.b p b_on w)

-- a point of the active area is four steps from one of the strings at some node of the question
area_gives : (q : LinkQuestion) (pos : BoardState) (p : ℕ) → q.a < pos.size * pos.size → q.b < pos.size * pos.size
    → InConnectionArea q pos p → IsLookedAt q pos p
area_gives q pos p a_on b_on h =
    grind (
      arith,
      near_gives (link_of q) h.here p (tree_on q.a a_on h.in_tree) (tree_on q.b b_on h.in_tree) h.near,
      tree_on q.a a_on h.in_tree,
      tree_on q.b b_on h.in_tree,
    )

-- what these steps reach is in the active area
area_from : (q : LinkQuestion) (pos : BoardState) (p : ℕ) → q.a < pos.size * pos.size → q.b < pos.size * pos.size
    → IsLookedAt q pos p → InConnectionArea q pos p
area_from q pos p a_on b_on h =
    grind (
      arith,
      near_from (link_of q) h.here p (tree_on q.a a_on h.in_tree) (tree_on q.b b_on h.in_tree) h.reached,
      tree_on q.a a_on h.in_tree,
      tree_on q.b b_on h.in_tree,
    )

-- the active area is what these steps reach
pub area-is : (q : LinkQuestion) (pos : BoardState) (p : ℕ) → q.a < pos.size * pos.size → q.b < pos.size * pos.size
    → InConnectionArea q pos p ↔ IsLookedAt q pos p
area-is q pos p a_on b_on = (area_gives q pos p a_on b_on, area_from q pos p a_on b_on)

-- no path joins the strings at an undecided node
apart_gives : (link : Link) (here : BoardState) → link.a < here.size * here.size → IsUndecided link here
    → IsInString here.size here.cells link.a link.b → ⊥
apart_gives link here a_on undecided joined = grind (arith, both_ways, is_is_in_string-from_fact)

-- if both strings stand and no path joins them, the node is undecided
undecided_from : (link : Link) (here : BoardState) → BothStand link here
    → (IsInString here.size here.cells link.a link.b → ⊥) → IsUndecided link here
undecided_from link here stand apart = grind (arith, stand_from, apart_from)

-- a node of a question is the first one, or comes of an undecided one by a move
pub node_gives : {q : LinkQuestion} {pos : BoardState} {n : ℕ} {own : Bool} {here : BoardState}
    → q.a < pos.size * pos.size → IsNodeOf q pos n own here → IsFirstOf q pos n own here ⊎ IsNextOf q pos n own here
node_gives a_on first = inl (record { plies = refl; turn = refl; on_it = refl })
node_gives {q} a_on (by_play {n} {own} {here} tree undecided p c new e) =
    grind (
      arith,
      stand_gives (link_of q) here undecided.stand,
      apart_gives (link_of q) here (tree_on q.a a_on tree) undecided,
      tree_on q.a a_on tree,
    )
node_gives {q} a_on (by_pass {n} {here} tree undecided) =
    grind (
      arith,
      stand_gives (link_of q) here undecided.stand,
      apart_gives (link_of q) here (tree_on q.a a_on tree) undecided,
      tree_on q.a a_on tree,
    )

-- the node that the other colour's pass leads to
passed_from : (q : LinkQuestion) (pos : BoardState) (n : ℕ) (side : Bool) (there : BoardState)
    → IsNodeOf q pos (suc n) side there → IsUndecided (link_of q) there → side ≡ false
    → IsNodeOf q pos n (not side) (pass there)
passed_from q pos n true there tree undecided e = absurd (both_ways true e refl)
passed_from q pos n false there tree undecided e = by_pass tree undecided

-- the first node, and what comes of an undecided one by a move, is a node of the question
pub node_from : (q : LinkQuestion) (pos : BoardState) (n : ℕ) (own : Bool) (here : BoardState)
    → IsFirstOf q pos n own here ⊎ IsNextOf q pos n own here → IsNodeOf q pos n own here
node_from q pos n own here (inl w) =
    subst (λ m. IsNodeOf q pos m own here) (sym w.plies)
    (subst (λ (b : BoardState). IsNodeOf q pos q.plies own b) (sym w.on_it)
    (subst (λ (o : Bool). IsNodeOf q pos q.plies o pos) (sym w.turn) first))
node_from q pos n own here (inr w) =
    let undecided = undecided_from (link_of q) w.there w.stand w.apart in
    subst (λ (o : Bool). IsNodeOf q pos n o here) (sym w.turn) (elim w.move [
      | inl m ↦ by_play w.in_tree undecided m.point m.move.connecting here m.move.legal
      | inr m ↦ subst (λ (b : BoardState). IsNodeOf q pos n (not w.side) b) (sym m.passed)
          (passed_from q pos n w.side w.there w.in_tree undecided m.others_turn)
    ])
