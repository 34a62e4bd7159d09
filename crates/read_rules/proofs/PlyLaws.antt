-- With more plies the attacker wins where he won; and where the ban forbids no candidate, the allowances do not matter.
use Rattle.std.proofs.Common.{◌≡◌, ℕ, zero, suc, ◌+◌, true, Option, Some, None, Ok, refl, sym, ap, subst, inl, inr, ◌∙◌}
use Rattle.std.proofs.Common.{add-one, arith}
use Rattle.std.proofs.lemmas.Bool.{cases_Bool, both_ways}
use Rattle.go_rules.proofs.Tests.{same_tests}
use Rattle.go_rules.specs.Position.{BoardState}
use Rattle.go_rules.specs.Play.{play, pass}
use Rattle.read_rules.specs.Turns.{mover_of}
use Rattle.read_rules.specs.Candidates.{is_candidate}
use Rattle.read_rules.specs.declared.node.Node.{Node}
use Rattle.read_rules.specs.GameTree.{is_captured, allowance_of, next_node, attacker_wins, has_lost_one_stone}
use Rattle.read_rules.specs.GameTree.{taking_back}
use Rattle.read_rules.specs.Rules.{IsChild}
use Rattle.read_rules.specs.BanFree.{with_allowances, IsFreeHere, IsFreeToTakeBack, IsBanFree}
use Rattle.read_rules.proofs.WinLemmas.{some_or_none, wins-captured, wins-none_left, wins-taken_back, wins-no_plies}
use Rattle.read_rules.proofs.RuleLemmas.{attacker_gives, attacker_from, defender_gives, defender_from}
use Rattle.read_rules.proofs.RuleLemmas.{child_gives, child_from, taking_back_gives, taking_back_from}

-- the same with the next number written as a sum
as_sum : (n : ℕ) (node : Node) (pos : BoardState) → attacker_wins (suc n) node pos ≡ true
    → attacker_wins (n + 1) node pos ≡ true
as_sum n node pos h = ap (λ m. attacker_wins m node pos) (add-one n) ∙ h

-- the same with the sum written as the next number
as_next : (n : ℕ) (node : Node) (pos : BoardState) → attacker_wins (n + 1) node pos ≡ true
    → attacker_wins (suc n) node pos ≡ true
as_next n node pos h = ap (λ m. attacker_wins m node pos) (sym (add-one n)) ∙ h

-- one more ply takes no win away
pub one_more : (n : ℕ) (node : Node) (pos : BoardState) → attacker_wins n node pos ≡ true
    → attacker_wins (suc n) node pos ≡ true
one_more zero node pos h =
    grind (arith, cases_Bool, some_or_none, wins-captured, both_ways, wins-none_left, wins-no_plies)
one_more (suc n) node pos h = elim (cases_Bool (is_captured pos node.turn.target)) [
  | inl t ↦ elim (some_or_none (taking_back node pos)) [
    | inl none ↦ wins-captured (suc (suc n)) node pos t none
    | inr back ↦ wins-taken_back (suc n) node pos back.0 t back.1
        ∙ one_more n back.0.0 back.0.1 (sym (wins-taken_back n node pos back.0 t back.1) ∙ h)
  ]
  | inr stands ↦
      grind (
        arith,
        cases_Bool,
        attacker_gives,
        as_sum,
        as_next,
        attacker_from,
        defender_gives,
        defender_from,
        one_more n,
        one_more n (next_node node (allowance_of node)) (pass pos),
      )
]

-- the child of a legal play, under other allowances
abbrev other_child : Node → ℕ → ℕ → Node
other_child node a d = next_node (with_allowances node a d) (allowance_of (with_allowances node a d))

-- where the ban forbids no candidate, a child is one by a legal play
legal_child : {below : Node → BoardState → Type 0} {node : Node} {pos : BoardState} → IsFreeHere below node pos
    → (p : ℕ) (next : Node) (new : BoardState)
    → is_candidate node.turn pos p ≡ true → (a d : ℕ) → IsChild (with_allowances node a d) pos p next new
    → (play pos (mover_of node.turn) p ≡ Ok new) × (next ≡ other_child node a d)
legal_child free p next new candidate a d (inl w) = (w.legal, w.next_is)
legal_child free p next new candidate a d (inr w) = absurd (free.none p candidate w.banned)

-- where the ban does not forbid to take back, the child is one by a legal play
back_child : {below : Node → BoardState → Type 0} {node : Node} {pos : BoardState}
    → (has_lost_one_stone node pos ≡ true → IsFreeToTakeBack below node pos) → (a d : ℕ) (child : Node × BoardState)
    → taking_back (with_allowances node a d) pos ≡ Some child
    → (has_lost_one_stone node pos ≡ true) × (play pos (mover_of node.turn) node.turn.target ≡ Ok child.1)
    × (child.0 ≡ other_child node a d)
back_child {node = node} {pos = pos} free a d child e =
    grind (
      arith,
      taking_back_gives (with_allowances node a d) pos child e,
      child_gives (with_allowances node a d) pos node.turn.target child.0 child.1,
    )

-- and so there is one under other allowances
back_child_from : (node : Node) (pos : BoardState) (x y : ℕ) (new : BoardState) → has_lost_one_stone node pos ≡ true
    → play pos (mover_of node.turn) node.turn.target ≡ Ok new
    → taking_back (with_allowances node x y) pos ≡ Some (other_child node x y, new)
back_child_from node pos x y new lost legal =
    grind (
      arith,
      taking_back_from (with_allowances node x y) pos (other_child node x y, new) lost,
      child_from (with_allowances node x y) pos node.turn.target (other_child node x y) new,
    )

-- If the defender takes back under the one pair of allowances only where he does under the other, and the attacker wins
-- the child, he wins.
same_taken : (n : ℕ) (node : Node) (pos : BoardState) → IsBanFree n node pos → (a d x y : ℕ)
    → is_captured pos node.turn.target ≡ true
    → attacker_wins n (with_allowances node a d) pos ≡ true
    → ((m : ℕ) (new : BoardState) → n ≡ suc m → play pos (mover_of node.turn) node.turn.target ≡ Ok new
    → has_lost_one_stone node pos ≡ true → attacker_wins m (other_child node a d) new ≡ true
    → attacker_wins m (other_child node x y) new ≡ true)
    → attacker_wins n (with_allowances node x y) pos ≡ true
same_taken zero node pos free a d x y t h below =
    grind (
      arith,
      wins-captured zero (with_allowances node x y) pos t,
      back_child free x y,
      wins-none_left (with_allowances node a d) pos,
      back_child_from node pos a d,
    )
same_taken (suc n) node pos free a d x y t h below =
    elim (some_or_none (taking_back (with_allowances node x y) pos)) [
      | inl none ↦ wins-captured (suc n) (with_allowances node x y) pos t none
      | inr back ↦
          grind (
            arith,
            back_child free.1 x y back.0 back.1,
            wins-taken_back n (with_allowances node a d) pos,
            back_child_from node pos a d back.0.1,
            wins-taken_back n (with_allowances node x y) pos back.0 t back.1,
          )
    ]

-- The attacker wins under these allowances exactly where he wins under others.
pub same_winner : (n : ℕ) (node : Node) (pos : BoardState) → IsBanFree n node pos → (a d x y : ℕ)
    → attacker_wins n (with_allowances node a d) pos ≡ true → attacker_wins n (with_allowances node x y) pos ≡ true
same_winner zero node pos free a d x y h = grind (arith, cases_Bool, same_taken, both_ways, wins-no_plies)
same_winner (suc n) node pos free a d x y h = elim (cases_Bool (is_captured pos node.turn.target)) [
  | inl t ↦ same_taken (suc n) node pos free a d x y t h (λ m new e legal lost won.
      let k : n ≡ m = omega (arith, e) in
      let below = next_node node (allowance_of node) in
      subst (λ m. attacker_wins m (other_child node x y) new ≡ true) k
      (same_winner n below new ((free.1 lost).played new legal) _ _ _ _
      (subst (λ m. attacker_wins m (other_child node a d) new ≡ true) (sym k) won)))
  | inr stands ↦
      let here = free.0 stands in
      let below = next_node node (allowance_of node) in
      elim (cases_Bool node.turn.attacker_to_play) [
        | inl turn ↦
            let w = attacker_gives n (with_allowances node a d) pos stands turn
            (as_sum n (with_allowances node a d) pos h) in
            let one = legal_child here w.1.point w.1.next w.1.new w.1.candidate a d w.1.child in
            let wins = ap (λ (m : Node). attacker_wins n m w.1.new) (sym one.1) ∙ w.1.wins in
            as_next n (with_allowances node x y) pos (attacker_from n (with_allowances node x y) pos stands turn (
              w.0,
              record {
                point = w.1.point;
                next = other_child node x y;
                new = w.1.new;
                candidate = w.1.candidate;
                child = inl (record { legal = one.0; next_is = refl });
                wins = same_winner n below w.1.new (here.played w.1.point w.1.new w.1.candidate one.0) _ _ _ _ wins;
              },
            ))
        | inr turn ↦
            let w = defender_gives n (with_allowances node a d) pos stands turn
            (as_sum n (with_allowances node a d) pos h) in
            as_next n (with_allowances node x y) pos (defender_from n (with_allowances node x y) pos stands turn
            (record {
              passed = same_winner n below (pass pos) (here.passed turn) _ _ _ _ w.passed;
              played = λ p next new candidate child.
                  let one = legal_child here p next new candidate x y child in
                  let wins = w.played p (other_child node a d) new candidate
                  (inl (record { legal = one.0; next_is = refl })) in
                  ap (λ (m : Node). attacker_wins n m new) one.1
                  ∙ same_winner n below new (here.played p new candidate one.0) _ _ _ _ wins;
            }))
      ]
]

-- so the winner is the same
pub one_winner : (n : ℕ) (node : Node) (pos : BoardState) (a d : ℕ) → IsBanFree n node pos
    → attacker_wins n (with_allowances node a d) pos ≡ attacker_wins n node pos
one_winner n node pos a d free = grind (arith, same_tests, same_winner)
