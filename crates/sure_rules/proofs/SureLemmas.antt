-- The four rules of sure captures, and that a sure capture is a capture of the game tree.
use Rattle.std.proofs.Common.{◌≡◌, ℕ, zero, suc, ◌+◌, ◌*◌, ◌<◌, Bool, true, false, not, ◌&&◌, cond, nat_lt}
use Rattle.std.proofs.Common.{Option, Some, None, refl, sym, ap, ◌∙◌, arith, inl, inr, add-one}
use Rattle.std.specs.List.{list_any, list_all}
use Rattle.std.proofs.lemmas.Bool.{cases_Bool, and_parts, and_from, both_ways, not-true, not_from_false, lt-ltb, ltb-true}
use Rattle.go_rules.proofs.Paths.{same_cell-from}
use Rattle.go_rules.specs.Position.{BoardState}
use Rattle.go_rules.specs.Play.{pass}
use Rattle.read_rules.specs.Candidates.{is_candidate}
use Rattle.read_rules.specs.declared.node.Node.{Node}
use Rattle.read_rules.specs.GameTree.{attacker_wins, child_of, next_node, allowance_of, some_child, each_child}
use Rattle.read_rules.specs.GameTree.{taking_back}
use Rattle.read_rules.specs.Rules.{TakesBack}
use Rattle.read_rules.proofs.CandidateLaws.{candidate_on}
use Rattle.read_rules.proofs.RuleLemmas.{child_gives, child_from, attacker_from, defender_from}
use Rattle.read_rules.proofs.RuleLemmas.{takes_back_gives, takes_back_from}
use Rattle.read_rules.proofs.WinLemmas.{wins-captured, wins-taken_back, some_or_none}
use Rattle.read_rules.proofs.WalkLemmas.{any_gives, any_from, all_gives, all_from}
use Rattle.sure_rules.specs.Nodes.{is_attackers, is_gone, has_too_many}
use Rattle.sure_rules.specs.SureTree.{is_tried, tried_points, surely_wins}
use Rattle.sure_rules.specs.SureInWords.{SomeCandidateCaptures, EveryReplyFails}

-- at the attacker's turn the points that are tried are the candidates
pub tried_candidate : (node : Node) (pos : BoardState) (p : ℕ) → is_attackers node ≡ true
    → is_tried node pos p ≡ is_candidate node.turn pos p
tried_candidate node pos p turn = ap (λ b. cond b (is_candidate node.turn pos p) (nat_lt p (pos.size * pos.size))) turn

-- at the defender's turn they are those of the board
pub tried_anywhere : (node : Node) (pos : BoardState) (p : ℕ) → is_attackers node ≡ false
    → is_tried node pos p ≡ nat_lt p (pos.size * pos.size)
tried_anywhere node pos p turn = ap (λ b. cond b (is_candidate node.turn pos p) (nat_lt p (pos.size * pos.size))) turn

-- a point that is tried is on the board
pub tried_on : (node : Node) (pos : BoardState) (p : ℕ) → is_tried node pos p ≡ true → p < pos.size * pos.size
tried_on node pos p h = grind (arith, cases_Bool, candidate_on, tried_candidate, ltb-true, tried_anywhere)

-- the target is taken, and is not taken back
pub sure-captured : (n : ℕ) (node : Node) (pos : BoardState) → is_gone node pos ≡ true → taking_back node pos ≡ None
    → surely_wins n node pos ≡ true
unfolding surely_wins
sure-captured zero node pos h none = rw (h, none) refl
sure-captured (suc n) node pos h none = rw (h, none) refl

-- the target is taken, and can be taken back, but no ply is left for it
pub sure-none_left : (node : Node) (pos : BoardState) (child : Node × BoardState) → taking_back node pos ≡ Some child
    → surely_wins zero node pos ≡ false
unfolding surely_wins
sure-none_left node pos child some = grind arith

-- the target is taken, and the defender takes it back
pub sure-taken_back : (n : ℕ) (node : Node) (pos : BoardState) (child : Node × BoardState) → is_gone node pos ≡ true
    → taking_back node pos ≡ Some child → surely_wins (suc n) node pos ≡ surely_wins n child.0 child.1
unfolding surely_wins
sure-taken_back n node pos child h some = rw (h, some) refl

-- it stands, and no ply is left
pub sure-no_plies : (n : ℕ) (node : Node) (pos : BoardState) → is_gone node pos ≡ false → n ≡ 0
    → surely_wins n node pos ≡ false
unfolding surely_wins
sure-no_plies zero node pos h e = rw h refl
sure-no_plies (suc n) node pos h e = cc

-- it stands, and it is the attacker's turn
pub sure-attacker : (n : ℕ) (node : Node) (pos : BoardState) → is_gone node pos ≡ false → is_attackers node ≡ true
    → surely_wins (suc n) node pos ≡ (not (has_too_many node pos)
    && list_any (λ p. some_child (surely_wins n) (child_of node pos p)) (tried_points node pos))
unfolding surely_wins
sure-attacker n node pos h e = grind arith

-- it stands, and it is the defender's turn
pub sure-defender : (n : ℕ) (node : Node) (pos : BoardState) → is_gone node pos ≡ false → is_attackers node ≡ false
    → surely_wins (suc n) node pos ≡ (surely_wins n (next_node node (allowance_of node)) (pass pos)
    && list_all (λ p. each_child (surely_wins n) (child_of node pos p)) (tried_points node pos))
unfolding surely_wins
sure-defender n node pos h e = grind arith

-- a child that is there and passes a test is a child, and passes it
some_gives : (test : Node → BoardState → Bool) (o : Option (Node × BoardState)) → some_child test o ≡ true
    → (child : Node × BoardState) × (o ≡ Some child) × (test child.0 child.1 ≡ true)
some_gives test None h = cc
some_gives test (Some child) h = (child, refl, h)

-- at the attacker's turn a sure capture rests on one candidate
pub sure_attacker_gives : (n : ℕ) (node : Node) (pos : BoardState) → is_gone node pos ≡ false
    → is_attackers node ≡ true → surely_wins (suc n) node pos ≡ true
    → (has_too_many node pos ≡ false) × SomeCandidateCaptures n node pos
sure_attacker_gives n node pos stands turn h =
    grind (arith, and_parts, sure-attacker, any_gives, not-true, some_gives, child_gives, tried_candidate)

-- at his turn the attacker surely captures if the target has few enough liberties and some candidate does it
pub sure_attacker_from : (n : ℕ) (node : Node) (pos : BoardState) → is_gone node pos ≡ false
    → is_attackers node ≡ true → (has_too_many node pos ≡ false) × SomeCandidateCaptures n node pos
    → surely_wins (suc n) node pos ≡ true
sure_attacker_from n node pos stands turn h =
    let w = h.1 in
    sure-attacker n node pos stands turn
    ∙ and_from _ _ (not_from_false _ h.0) (any_from (is_tried node pos)
    (λ p. some_child (surely_wins n) (child_of node pos p)) (pos.size * pos.size) 0 w.point (omega arith)
    (let on = candidate_on node.turn pos w.point w.candidate in omega arith)
    (tried_candidate node pos w.point turn ∙ w.candidate)
    (ap (some_child (surely_wins n)) (child_from node pos w.point w.next w.new w.child) ∙ w.wins))

-- a test that each child passes is passed by the child that is there
each_gives : (test : Node → BoardState → Bool) (o : Option (Node × BoardState)) (next : Node) (new : BoardState)
    → each_child test o ≡ true → o ≡ Some (next, new) → test next new ≡ true
each_gives test o next new h e = sym (ap (each_child test) e) ∙ h

-- a test that is passed by the child that is there is passed by each child
each_from : (test : Node → BoardState → Bool) (o : Option (Node × BoardState))
    → ((next : Node) (new : BoardState) → o ≡ Some (next, new) → test next new ≡ true) → each_child test o ≡ true
each_from test None h = refl
each_from test (Some child) h = h child.0 child.1 refl

-- at the defender's turn a sure capture rests on every reply
pub sure_defender_gives : (n : ℕ) (node : Node) (pos : BoardState) → is_gone node pos ≡ false
    → is_attackers node ≡ false → surely_wins (suc n) node pos ≡ true → EveryReplyFails n node pos
sure_defender_gives n node pos stands turn h =
    let parts = and_parts _ _ (sym (sure-defender n node pos stands turn) ∙ h) in
    record {
      passed = parts.0;
      played = λ p next new on child.
          each_gives (surely_wins n) (child_of node pos p) next new
          (all_gives (is_tried node pos) (λ p. each_child (surely_wins n) (child_of node pos p))
          (pos.size * pos.size) 0 p parts.1 (omega arith) (omega (arith, on))
          (tried_anywhere node pos p turn ∙ lt-ltb p (pos.size * pos.size) on))
          (child_from node pos p next new child);
    }

-- at the defender's turn the target is surely captured if every reply fails
pub sure_defender_from : (n : ℕ) (node : Node) (pos : BoardState) → is_gone node pos ≡ false
    → is_attackers node ≡ false → EveryReplyFails n node pos → surely_wins (suc n) node pos ≡ true
sure_defender_from n node pos stands turn w =
    grind (arith, sure-defender, and_from, all_from, each_from, tried_on, child_gives)

-- a target that is surely captured with no ply left is taken, and is not taken back
pub sure_at_end : (node : Node) (pos : BoardState) → surely_wins 0 node pos ≡ true
    → (is_gone node pos ≡ true) × (taking_back node pos ≡ None)
sure_at_end node pos h = grind (arith, cases_Bool, both_ways, sure-no_plies, some_or_none, sure-none_left)

-- so it is taken
pub sure_now : (node : Node) (pos : BoardState) → surely_wins 0 node pos ≡ true → is_gone node pos ≡ true
sure_now node pos h = (sure_at_end node pos h).0

-- nothing is both there and not
pub none_and_some : {o : Option (Node × BoardState)} {child : Node × BoardState} → o ≡ None → o ≡ Some child → ⊥
none_and_some none some = let wrong = sym none ∙ some in cc

-- at the attacker's turn nothing is taken back
pub none_at_attackers : (node : Node) (pos : BoardState) → is_attackers node ≡ true → taking_back node pos ≡ None
none_at_attackers node pos turn = elim (some_or_none (taking_back node pos)) [
  | inl none ↦ none
  | inr back ↦ absurd (both_ways (is_attackers node) (takes_back_gives node pos back.0.0 back.0.1 back.1).lost.turn turn)
]

-- a target that is taken, and is not taken back by the rules, is surely captured
pub sure_by_rules : (n : ℕ) (node : Node) (pos : BoardState) → is_gone node pos ≡ true
    → ((next : Node) (new : BoardState) → TakesBack node pos next new → ⊥) → surely_wins n node pos ≡ true
sure_by_rules n node pos t none = elim (some_or_none (taking_back node pos)) [
  | inl e ↦ sure-captured n node pos t e
  | inr back ↦ absurd (none back.0.0 back.0.1 (takes_back_gives node pos back.0.0 back.0.1 back.1))
]

-- a target that is taken is surely captured with a ply more if it is at the child to which the defender takes back
pub sure_if_back_fails : (n : ℕ) (node : Node) (pos : BoardState) → is_gone node pos ≡ true
    → ((next : Node) (new : BoardState) → TakesBack node pos next new → surely_wins n next new ≡ true)
    → surely_wins (suc n) node pos ≡ true
sure_if_back_fails n node pos t fails = elim (some_or_none (taking_back node pos)) [
  | inl e ↦ sure-captured (suc n) node pos t e
  | inr back ↦ sure-taken_back n node pos back.0 t back.1
      ∙ fails back.0.0 back.0.1 (takes_back_gives node pos back.0.0 back.0.1 back.1)
]

-- a target that is taken back is surely captured if it is after that
pub taken_back_by_rules : (n : ℕ) (node : Node) (pos : BoardState) (next : Node) (new : BoardState)
    → TakesBack node pos next new → surely_wins (n + 1) node pos ≡ surely_wins n next new
taken_back_by_rules n node pos next new w =
    ap (λ m. surely_wins m node pos) (add-one n)
    ∙ sure-taken_back n node pos (next, new) (same_cell-from _ _ w.lost.taken) (takes_back_from node pos next new w)

-- the same of the game tree, with the next number written as a sum
as_next : (n : ℕ) (node : Node) (pos : BoardState) → attacker_wins (n + 1) node pos ≡ true
    → attacker_wins (suc n) node pos ≡ true
as_next n node pos h = ap (λ m. attacker_wins m node pos) (sym (add-one n)) ∙ h

-- what is surely captured is captured in the game tree
pub sure_is_won : (n : ℕ) (node : Node) (pos : BoardState) → surely_wins n node pos ≡ true
    → attacker_wins n node pos ≡ true
sure_is_won zero node pos h = let taken = sure_at_end node pos h in wins-captured 0 node pos taken.0 taken.1
sure_is_won (suc n) node pos h = elim (cases_Bool (is_gone node pos)) [
  | inl t ↦ elim (some_or_none (taking_back node pos)) [
    | inl none ↦ wins-captured (suc n) node pos t none
    | inr back ↦ wins-taken_back n node pos back.0 t back.1
        ∙ sure_is_won n back.0.0 back.0.1 (sym (sure-taken_back n node pos back.0 t back.1) ∙ h)
  ]
  | inr stands ↦ elim (cases_Bool (is_attackers node)) [
    | inl turn ↦
        let w = sure_attacker_gives n node pos stands turn h in
        as_next n node pos (attacker_from n node pos stands turn (
          w.0,
          record {
            point = w.1.point;
            next = w.1.next;
            new = w.1.new;
            candidate = w.1.candidate;
            child = w.1.child;
            wins = sure_is_won n w.1.next w.1.new w.1.wins;
          },
        ))
    | inr turn ↦
        let w = sure_defender_gives n node pos stands turn h in
        as_next n node pos (defender_from n node pos stands turn (record {
          passed = sure_is_won n (next_node node (allowance_of node)) (pass pos) w.passed;
          played = λ p next new candidate child.
              sure_is_won n next new (w.played p next new (candidate_on node.turn pos p candidate) child);
        }))
  ]
]
