-- The first move that succeeds, and that a side has one exactly if it has its way.
use Rattle.std.proofs.Common.{◌≡◌, ◌≢◌, ℕ, zero, suc, ◌-◌, ◌*◌, ◌<◌, ◌≤◌, Bool, true, false, not, ◌&&◌, cond}
use Rattle.std.proofs.Common.{List, [], ◌∷◌, Option, Some, None, refl, ap, sym, subst, ◌∙◌, arith, is_some, is_none}
use Rattle.std.specs.List.{find, list_any, list_all}
use mathlib.Core.Bool.{beq}
use Rattle.std.proofs.lemmas.Bool.{cases_Bool, both_ways, not-true, not_from_false, and_from, and_parts}
use Rattle.go_rules.specs.Position.{BoardState}
use Rattle.go_rules.specs.Play.{pass}
use Rattle.read_rules.specs.declared.node.Node.{Node}
use Rattle.read_rules.specs.declared.question.Spot.{Spot}
use Rattle.read_rules.specs.declared.question.Spot.TheVariants.{Pass}
use Rattle.read_rules.specs.GameTree.{child_of, next_node, allowance_of, some_child, each_child, at_point}
use Rattle.read_rules.proofs.RuleLemmas.{child_gives, child_from}
use Rattle.read_rules.proofs.WinLemmas.{any-first, first-found, first-none, none_before}
use Rattle.read_rules.proofs.WalkLemmas.{find_gives}
use Rattle.sure_rules.specs.Nodes.{is_attackers, is_gone, has_too_many}
use Rattle.sure_rules.specs.SureTree.{is_tried, tried_points, surely_wins}
use Rattle.sure_rules.specs.SureAnswer.{surely_suits, surely_succeeds, pass_holds, first_sure, first_sure_move, sure_move}
use Rattle.sure_rules.specs.SureInWords.{SurelySucceeds, IsFirstSureMove}
use Rattle.sure_rules.proofs.SureLemmas.{tried_on, sure-attacker, sure-defender}

-- none passes a test exactly if each passes the opposite test
none-first : {X : Type 0} (f g : X → Bool) (xs : List X) → ((x : X) → f x ≡ not (g x))
    → is_none (find f xs) ≡ list_all g xs
none-first f g [] h = refl
none-first f g (x ∷ xs) h = grind (arith, none-first f g xs)

-- a reply to a child that is not surely captured is there exactly if not each child is surely captured
lost_child : (n : ℕ) (child : Option (Node × BoardState))
    → some_child (λ s pos. not (surely_wins n s pos)) child ≡ not (each_child (surely_wins n) child)
lost_child n None = refl
lost_child n (Some child) = refl

-- a move at a point is there exactly if the point is
some-at_point : (o : Option ℕ) → is_some (at_point o) ≡ is_some o
some-at_point None = refl
some-at_point (Some p) = refl

-- the move that succeeds, by whose turn it is
by_turn : (turn many held : Bool) (first : Option ℕ) → Option Spot
by_turn turn many held first = cond (turn && many) None (cond (not turn && held) (Some Pass) (at_point first))

-- the move of a node that succeeds is that of the side whose turn it is
sure_move-by_turn : (n : ℕ) (node : Node) (pos : BoardState)
    → sure_move n node pos ≡ by_turn (is_attackers node) (has_too_many node pos)
    (not (surely_wins n (next_node node (allowance_of node)) (pass pos))) (first_sure n node pos)
unfolding by_turn
sure_move-by_turn n node pos = refl

-- the attacker has one exactly if the target has few liberties and some child is surely captured
attacker_some : (many held : Bool) (first : Option ℕ) (any : Bool) → is_some first ≡ any
    → is_some (by_turn true many held first) ≡ (not many && any)
unfolding by_turn
attacker_some true held first any e = refl
attacker_some false held first any e = some-at_point first ∙ e

-- the defender has none exactly if after the pass and at every child the target is surely captured
defender_none : (many lost : Bool) (first : Option ℕ) (all : Bool) → is_none first ≡ all
    → is_none (by_turn false many (not lost) first) ≡ (lost && all)
unfolding by_turn
defender_none many true first all e = ap not (some-at_point first) ∙ e
defender_none many false first all e = refl

-- at the attacker's turn some point succeeds exactly if some child is surely captured
attacker_first : (n : ℕ) (node : Node) (pos : BoardState) → is_attackers node ≡ true
    → is_some (first_sure n node pos)
    ≡ list_any (λ p. some_child (surely_wins n) (child_of node pos p)) (tried_points node pos)
attacker_first n node pos e = grind (arith, any-first)

-- at the attacker's turn the target is surely captured exactly if he has a move that succeeds
pub sure-attacker_move : (n : ℕ) (node : Node) (pos : BoardState) → is_gone node pos ≡ false → n ≢ 0
    → is_attackers node ≡ true → surely_wins n node pos ≡ is_some (sure_move (n - 1) node pos)
sure-attacker_move zero node pos h ne e = absurd (ne refl)
sure-attacker_move (suc n) node pos h ne e =
    grind (arith, sure-attacker, sure_move-by_turn, by_turn, attacker_some, attacker_first)

-- and at the defender's turn exactly if he has none
pub sure-defender_move : (n : ℕ) (node : Node) (pos : BoardState) → is_gone node pos ≡ false → n ≢ 0
    → is_attackers node ≡ false → surely_wins n node pos ≡ is_none (sure_move (n - 1) node pos)
sure-defender_move zero node pos h ne e = absurd (ne refl)
sure-defender_move (suc n) node pos h ne e =
    grind (arith, sure-defender, sure_move-by_turn, by_turn, defender_none, none-first, lost_child)

-- the first point that succeeds, found by a walk over the points that are tried
pub first_sure-found : (n : ℕ) (node : Node) (pos : BoardState) (next p : ℕ) (tried : ℕ → Bool)
    → ((q : ℕ) → tried q ≡ is_tried node pos q)
    → ((q : ℕ) → q < next → (tried q && surely_succeeds n node pos q) ≡ false)
    → ((q : ℕ) → next ≤ q → q < p → tried q ≡ false)
    → tried p ≡ true → true ≡ surely_succeeds n node pos p → Some p ≡ first_sure n node pos
first_sure-found n node pos next p tried same before between c t =
    grind (
      arith,
      tried_on node pos p (sym (same p) ∙ c),
      first-found (is_tried node pos) (surely_succeeds n node pos) (pos.size * pos.size) 0 p,
      none_before tried (surely_succeeds n node pos) next p before between,
      and_from,
    )

-- none succeeds if no point is left
pub first_sure-none : (n : ℕ) (node : Node) (pos : BoardState) (next : ℕ) (tried : ℕ → Bool)
    → ((q : ℕ) → tried q ≡ is_tried node pos q)
    → ((q : ℕ) → q < next → (tried q && surely_succeeds n node pos q) ≡ false)
    → ((q : ℕ) → next ≤ q → tried q ≡ false) → None ≡ first_sure n node pos
first_sure-none n node pos next tried same before left = grind (arith, first-none, none_before)

-- whether the target is surely captured at a node that no earlier rule decides, by whether its mover has a move that
-- succeeds
pub sure-by_move : (n : ℕ) (node : Node) (pos : BoardState) (some : Bool) → is_gone node pos ≡ false → n ≢ 0
    → some ≡ is_some (sure_move (n - 1) node pos) → beq some (is_attackers node) ≡ surely_wins n node pos
sure-by_move n node pos some h ne e = grind (arith, cases_Bool, beq, sure-attacker_move, sure-defender_move)

-- what a child that suits the mover is
suits_gives : (n : ℕ) (turn : Bool) (o : Option (Node × BoardState)) → surely_suits n turn o ≡ true
    → (child : Node × BoardState) × (o ≡ Some child) × (surely_wins n child.0 child.1 ≡ turn)
suits_gives n true None h = cc
suits_gives n false None h = cc
suits_gives n true (Some child) h = (child, refl, h)
suits_gives n false (Some child) h = (child, refl, not-true _ h)

-- a child whose outcome is the one that the side to play wants suits it
suits_from : (n : ℕ) (turn : Bool) (next : Node) (new : BoardState) → surely_wins n next new ≡ turn
    → surely_suits n turn (Some (next, new)) ≡ true
suits_from n true next new e = e
suits_from n false next new e = not_from_false _ e

-- a point that succeeds in words succeeds by the test
succeeds_from : (n : ℕ) (node : Node) (pos : BoardState) (p : ℕ) → SurelySucceeds n node pos p
    → surely_succeeds n node pos p ≡ true
succeeds_from n node pos p w =
    grind (arith, child_from node pos p w.next w.new w.child, suits_from n (is_attackers node) w.next w.new w.outcome)

-- the pass if it holds, and else the first point that succeeds, is the first move that does
first_by : (n : ℕ) (node : Node) (pos : BoardState) (holds : Bool) (found : Option ℕ) (spot : Spot)
    → pass_holds n node pos ≡ holds → first_sure n node pos ≡ found
    → cond holds (Some Pass) (at_point found) ≡ Some spot → IsFirstSureMove n node pos spot
first_by n node pos true found spot ps fs e = let same : Pass ≡ spot = cc in subst (IsFirstSureMove n node pos) same ps
first_by n node pos false None spot ps fs e = absurd (let w = e in cc)
first_by n node pos false (Some p) spot ps fs e =
    grind (arith, find_gives, suits_gives, child_gives, both_ways, succeeds_from)

-- the first move that is computed is the first that succeeds
pub first_sure_move_gives : (n : ℕ) (node : Node) (pos : BoardState) (spot : Spot)
    → first_sure_move n node pos ≡ Some spot → IsFirstSureMove n node pos spot
first_sure_move_gives n node pos spot e = grind (arith, first_by)

-- a point that is there
there_point : (o : Option ℕ) → is_some o ≡ true → (p : ℕ) × (o ≡ Some p)
there_point None e = cc
there_point (Some p) e = (p, refl)

-- at the attacker's turn a target that is surely captured is so by the first point that succeeds
pub first_sure_there : (n : ℕ) (node : Node) (pos : BoardState) → is_gone node pos ≡ false → is_attackers node ≡ true
    → surely_wins (suc n) node pos ≡ true
    → (p : ℕ) × (first_sure n node pos ≡ Some p) × (is_tried node pos p ≡ true)
    × (some_child (surely_wins n) (child_of node pos p) ≡ true)
first_sure_there n node pos stands turn sure =
    grind (
      arith,
      sure-attacker n node pos stands turn,
      there_point (first_sure n node pos),
      attacker_first n node pos turn,
      find_gives (is_tried node pos) (surely_succeeds n node pos) (pos.size * pos.size) 0,
      and_parts,
    )
