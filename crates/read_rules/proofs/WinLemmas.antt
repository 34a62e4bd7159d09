-- Who wins at a node, by the first move that suits the side to play.
use Rattle.std.proofs.Common.{◌≡◌, ◌≢◌, ℕ, zero, suc, ◌+◌, ◌-◌, ◌*◌, ◌<◌, ◌≤◌, Bool, true, false, not, ◌&&◌, cond}
use Rattle.std.proofs.Common.{List, [], ◌∷◌, Option, Some, None, refl, ap, sym, ◌∙◌, arith, is_some, is_none, inl}
use Rattle.std.proofs.Common.{inr, ◌⊎◌}
use Rattle.std.specs.List.{range_with_len, filter, find, list_any, list_all}
use mathlib.Core.Bool.{beq}
use Rattle.std.proofs.lemmas.Bool.{cases_Bool, cases_eq, cases_lt, and_parts}
use Rattle.go_rules.specs.Position.{BoardState}
use Rattle.go_rules.specs.Play.{pass}
use Rattle.read_rules.specs.Candidates.{is_candidate, candidates_of}
use Rattle.read_rules.proofs.CandidateLaws.{candidate_on}
use Rattle.read_rules.specs.declared.node.Node.{Node}
use Rattle.read_rules.specs.declared.question.Spot.{Spot}
use Rattle.read_rules.specs.declared.question.Spot.TheVariants.{Pass}
use Rattle.read_rules.specs.GameTree.{attacker_wins, child_of, next_node, allowance_of, succeeds, first_success}
use Rattle.read_rules.specs.GameTree.{at_point, is_captured, has_many_liberties, some_child, each_child, taking_back}
use Rattle.read_rules.specs.GoodMoves.{good_move}

-- a number that fails a test is passed over
passed_over : (t : ℕ → Bool) (a : ℕ) (rest : List ℕ) (found : Option ℕ) (x : Bool) → (x && t a) ≡ false
    → find t rest ≡ found → find t (cond x (a ∷ rest) rest) ≡ found
passed_over t a rest found true h e = rw h e
passed_over t a rest found false h e = e

-- the first that passes both tests, among the numbers from a on
pub first-found : (g t : ℕ → Bool) (n a p : ℕ) → a ≤ p → p < a + n → ((q : ℕ) → a ≤ q → q < p → (g q && t q) ≡ false)
    → (g p && t p) ≡ true → find t (filter g (range_with_len a n)) ≡ Some p
first-found g t zero a p lo hi before here = absurd (omega arith)
first-found g t (suc n) a p lo hi before here =
    grind (arith, cases_eq, and_parts, passed_over, first-found g t n (a + 1) p)

-- where no number passes both tests, none is found
pub first-none : (g t : ℕ → Bool) (n a : ℕ) → ((q : ℕ) → a ≤ q → q < a + n → (g q && t q) ≡ false)
    → find t (filter g (range_with_len a n)) ≡ None
first-none g t zero a none = refl
first-none g t (suc n) a none = grind (arith, passed_over, first-none g t n (a + 1))

-- a move was found exactly where one is there
pub any-first : {X : Type 0} (f : X → Bool) (xs : List X) → is_some (find f xs) ≡ list_any f xs
any-first f [] = refl
any-first f (x ∷ xs) = grind (arith, any-first f xs)

-- none passes a test exactly where each passes the opposite test
none-first : {X : Type 0} (f g : X → Bool) (xs : List X) → ((x : X) → f x ≡ not (g x))
    → is_none (find f xs) ≡ list_all g xs
none-first f g [] h = refl
none-first f g (x ∷ xs) h = grind (arith, none-first f g xs)

-- there is a child that the attacker does not win exactly where it is not so that he wins it if it is there
lost_child : (n : ℕ) (child : Option (Node × BoardState))
    → some_child (λ s pos. not (attacker_wins n s pos)) child ≡ not (each_child (attacker_wins n) child)
lost_child n None = refl
lost_child n (Some child) = refl

-- there is no child, or there is one
pub some_or_none : (o : Option (Node × BoardState)) → (o ≡ None) ⊎ ((child : Node × BoardState) × (o ≡ Some child))
some_or_none None = inl refl
some_or_none (Some child) = inr (child, refl)

-- the target is taken, and is not taken back
pub wins-captured : (n : ℕ) (node : Node) (pos : BoardState) → is_captured pos node.turn.target ≡ true
    → taking_back node pos ≡ None → attacker_wins n node pos ≡ true
unfolding attacker_wins
wins-captured zero node pos h none = rw (h, none) refl
wins-captured (suc n) node pos h none = rw (h, none) refl

-- the target is taken, and can be taken back, but no ply is left for it
pub wins-none_left : (node : Node) (pos : BoardState) (child : Node × BoardState) → taking_back node pos ≡ Some child
    → attacker_wins zero node pos ≡ false
unfolding attacker_wins
wins-none_left node pos child some = grind arith

-- the target is taken, and the defender takes it back
pub wins-taken_back : (n : ℕ) (node : Node) (pos : BoardState) (child : Node × BoardState)
    → is_captured pos node.turn.target ≡ true → taking_back node pos ≡ Some child
    → attacker_wins (suc n) node pos ≡ attacker_wins n child.0 child.1
unfolding attacker_wins
wins-taken_back n node pos child h some = rw (h, some) refl

-- it stands, and no ply is left
pub wins-no_plies : (n : ℕ) (node : Node) (pos : BoardState) → is_captured pos node.turn.target ≡ false → n ≡ 0
    → attacker_wins n node pos ≡ false
unfolding attacker_wins
wins-no_plies zero node pos h e = rw h refl
wins-no_plies (suc n) node pos h e = cc

-- it stands, and it is the attacker's turn
pub wins-attacker : (n : ℕ) (node : Node) (pos : BoardState) → is_captured pos node.turn.target ≡ false
    → node.turn.attacker_to_play ≡ true
    → attacker_wins (suc n) node pos ≡ (not (has_many_liberties node.turn pos)
    && list_any (λ p. some_child (attacker_wins n) (child_of node pos p)) (candidates_of node.turn pos))
unfolding attacker_wins
wins-attacker n node pos h e = grind arith

-- it stands, and it is the defender's turn
pub wins-defender : (n : ℕ) (node : Node) (pos : BoardState) → is_captured pos node.turn.target ≡ false
    → node.turn.attacker_to_play ≡ false
    → attacker_wins (suc n) node pos ≡ (attacker_wins n (next_node node (allowance_of node)) (pass pos)
    && list_all (λ p. each_child (attacker_wins n) (child_of node pos p)) (candidates_of node.turn pos))
unfolding attacker_wins
wins-defender n node pos h e = grind arith

-- a move at a point is there exactly where the point is
some-at_point : (o : Option ℕ) → is_some (at_point o) ≡ is_some o
some-at_point None = refl
some-at_point (Some p) = refl

-- the good move, by whose turn it is
by_turn : (turn many saved : Bool) (first : Option ℕ) → Option Spot
by_turn turn many saved first = cond (turn && many) None (cond (not turn && saved) (Some Pass) (at_point first))

-- the good move of a node is that of the side whose turn it is
good_move-by_turn : (n : ℕ) (node : Node) (pos : BoardState)
    → good_move n node pos ≡ by_turn node.turn.attacker_to_play (has_many_liberties node.turn pos)
    (not (attacker_wins n (next_node node (allowance_of node)) (pass pos))) (first_success n node pos)
unfolding by_turn
good_move-by_turn n node pos = refl

-- the attacker has a good move exactly where the target has few liberties and some child wins
attacker_some : (many saved : Bool) (first : Option ℕ) (any : Bool) → is_some first ≡ any
    → is_some (by_turn true many saved first) ≡ (not many && any)
unfolding by_turn
attacker_some true saved first any e = refl
attacker_some false saved first any e = some-at_point first ∙ e

-- the defender has no good move exactly where the pass and every child are lost
defender_none : (many lost : Bool) (first : Option ℕ) (all : Bool) → is_none first ≡ all
    → is_none (by_turn false many (not lost) first) ≡ (lost && all)
unfolding by_turn
defender_none many true first all e = ap not (some-at_point first) ∙ e
defender_none many false first all e = refl

-- the attacker wins at his turn exactly where he has a good move
pub wins-attacker_move : (n : ℕ) (node : Node) (pos : BoardState) → is_captured pos node.turn.target ≡ false → n ≢ 0
    → node.turn.attacker_to_play ≡ true
    → attacker_wins n node pos ≡ is_some (good_move (n - 1) node pos)
wins-attacker_move zero node pos h ne e = absurd (ne refl)
wins-attacker_move (suc n) node pos h ne e =
    grind (arith, wins-attacker, good_move-by_turn, by_turn, attacker_some, any-first)

-- and at the defender's turn exactly where the defender has none
pub wins-defender_move : (n : ℕ) (node : Node) (pos : BoardState) → is_captured pos node.turn.target ≡ false → n ≢ 0
    → node.turn.attacker_to_play ≡ false
    → attacker_wins n node pos ≡ is_none (good_move (n - 1) node pos)
wins-defender_move zero node pos h ne e = absurd (ne refl)
wins-defender_move (suc n) node pos h ne e =
    grind (arith, wins-defender, good_move-by_turn, by_turn, defender_none, none-first, lost_child)

-- no point before p is a candidate that succeeds, where none before the next one is, and between them stands no
-- candidate
pub none_before : (cands wins : ℕ → Bool) (next p : ℕ) → ((q : ℕ) → q < next → (cands q && wins q) ≡ false)
    → ((q : ℕ) → next ≤ q → q < p → cands q ≡ false)
    → (q : ℕ) → q < p → (cands q && wins q) ≡ false
none_before cands wins next p before between q h = grind (arith, cases_lt)

-- nor is p, where it does not succeed
pub none_up_to : (cands wins : ℕ → Bool) (next p : ℕ) → ((q : ℕ) → q < next → (cands q && wins q) ≡ false)
    → ((q : ℕ) → next ≤ q → q < p → cands q ≡ false) → cands p ≡ true → wins p ≡ false
    → (q : ℕ) → q < p + 1 → (cands q && wins q) ≡ false
none_up_to cands wins next p before between c fails q h = grind (arith, cases_eq, none_before)

-- the first that succeeds, found by a walk over the candidates
pub first_success-found : (n : ℕ) (node : Node) (pos : BoardState) (next p : ℕ) (cands : ℕ → Bool)
    → ((q : ℕ) → cands q ≡ is_candidate node.turn pos q)
    → ((q : ℕ) → q < next → (cands q && succeeds n node pos q) ≡ false) → ((q : ℕ) → next ≤ q → q < p → cands q ≡ false)
    → cands p ≡ true → true ≡ succeeds n node pos p → Some p ≡ first_success n node pos
first_success-found n node pos next p cands same before between c t =
    grind (
      arith,
      candidate_on node.turn pos p (sym (same p) ∙ c),
      first-found (is_candidate node.turn pos) (succeeds n node pos) (pos.size * pos.size) 0 p,
    )

-- none succeeds, where no candidate is left
pub first_success-none : (n : ℕ) (node : Node) (pos : BoardState) (next : ℕ) (cands : ℕ → Bool)
    → ((q : ℕ) → cands q ≡ is_candidate node.turn pos q)
    → ((q : ℕ) → q < next → (cands q && succeeds n node pos q) ≡ false) → ((q : ℕ) → next ≤ q → cands q ≡ false)
    → None ≡ first_success n node pos
first_success-none n node pos next cands same before left = grind (arith, first-none, none_before)

-- who wins at a node that no earlier rule decides, by whether its mover has a good move
pub wins-by_move : (n : ℕ) (node : Node) (pos : BoardState) (some : Bool) → is_captured pos node.turn.target ≡ false → n ≢ 0
    → some ≡ is_some (good_move (n - 1) node pos) → beq some node.turn.attacker_to_play ≡ attacker_wins n node pos
wins-by_move n node pos some h ne e = grind (arith, cases_Bool, beq, wins-attacker_move, wins-defender_move)
