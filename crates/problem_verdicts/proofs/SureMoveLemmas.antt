-- The points that are looked at, and the set that is found of them.
use Rattle.std.proofs.Common.{◌≡◌, ◌∙◌, ℕ, ◌*◌, ◌<◌, ◌≤◌, ◌&&◌, Bool, true, false, nat_lt, ltb, refl, sym, ap, arith}
use Rattle.std.proofs.Common.{inl, inr}
use Rattle.std.proofs.lemmas.Bool.{cases_Bool, cases_lt, lt-ltb, le-ltb, ltb-true, both_ways}
use Rattle.std.specs.FinSet as set
use Rattle.std.specs.Ordering.{nat_cmp}
use Rattle.go_rules.specs.Position.{BoardState}
use Rattle.read_rules.specs.declared.node.Node.{Node}
use Rattle.sure_rules.specs.Nodes.{is_attackers}
use Rattle.sure_rules.specs.SureTree.{is_tried}
use Rattle.sure_rules.proofs.SureLemmas.{tried_on, tried_anywhere}
use Rattle.problem_verdicts.specs.SureQuestions.{is_seen}
use Rattle.problem_verdicts.specs.declared.scope.Scope.{Scope}
use Rattle.problem_verdicts.specs.declared.scope.Scope.TheVariants.{Tried, Anywhere}

-- at the defender's turn every point of the board is tried
pub tried_inside : (node : Node) (pos : BoardState) (p : ℕ) → is_attackers node ≡ false → p < pos.size * pos.size
    → true ≡ is_tried node pos p
tried_inside node pos p turn on = sym (tried_anywhere node pos p turn ∙ lt-ltb p (pos.size * pos.size) on)

-- every point of the board is looked at if the scope is all of it
pub seen_inside : (node : Node) (pos : BoardState) (p : ℕ) → p < pos.size * pos.size
    → true ≡ is_seen Anywhere node pos p
seen_inside node pos p on = sym (lt-ltb p (pos.size * pos.size) on)

-- a point that is looked at is on the board
seen_on : (scope : Scope) (node : Node) (pos : BoardState) (p : ℕ) → is_seen scope node pos p ≡ true
    → p < pos.size * pos.size
seen_on Tried node pos p is = tried_on node pos p is
seen_on Anywhere node pos p is = ltb-true p (pos.size * pos.size) is

-- a point that is not on the board is not looked at
not_seen : (scope : Scope) (node : Node) (pos : BoardState) (p : ℕ) → pos.size * pos.size ≤ p
    → is_seen scope node pos p ≡ false
not_seen scope node pos p off = elim (cases_Bool (is_seen scope node pos p)) [
  | inl t ↦ let on = seen_on scope node pos p t in absurd (omega (arith, off, on))
  | inr f ↦ f
]

-- of all points below the number of points those were found that are looked at and succeed
pub all_found : (scope : Scope) (node : Node) (pos : BoardState) (wins : ℕ → Bool) (found : set.FinSet nat_cmp)
    → ((q : ℕ) → set.contains found q ≡ (ltb q (pos.size * pos.size) && (is_seen scope node pos q && wins q)))
    → (q : ℕ) → set.contains found q ≡ (is_seen scope node pos q && wins q)
all_found scope node pos wins found has q = elim (cases_lt q (pos.size * pos.size)) [
  | inl on ↦ has q ∙ ap (λ b. b && (is_seen scope node pos q && wins q)) (lt-ltb q (pos.size * pos.size) on)
  | inr off ↦ has q ∙ ap (λ b. b && (is_seen scope node pos q && wins q)) (le-ltb q (pos.size * pos.size) off)
      ∙ sym (ap (λ b. b && wins q) (not_seen scope node pos q off))
]

-- nothing attains code 0
pub none_attains : (seen : Bool) (code : ℕ) (wins : Bool) → code ≡ 0 → false ≡ (seen && (nat_lt 0 code && wins))
none_attains true code wins zero = sym (ap (λ b. b && wins) (le-ltb 0 code (omega (arith, zero))))
none_attains false code wins zero = refl
