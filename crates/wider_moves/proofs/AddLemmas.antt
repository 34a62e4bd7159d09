-- Points for which a test holds at a point of a set, added at one point of the set after another.
use Rattle.std.proofs.Common.{◌≡◌, ℕ, ◌+◌, ◌<◌, ◌≤◌, ◌&&◌, ◌||◌, Bool, true, false, refl, sym, ap}
use Rattle.std.proofs.Common.{arith, inl, inr, ◌∙◌, add-one}
use Rattle.std.proofs.lemmas.Bool.{cases_lt, both_ways, and_parts}
use Rattle.std.specs.Ordering.{nat_cmp}
use Rattle.std.specs.FinSet as sets
use Rattle.go_rules.specs.Below.{any_below}
use Rattle.go_rules.proofs.Counts.{any_below_gives, any_below_from}
use Rattle.go_rules.proofs.Tests.{same_tests}

-- a test of all numbers below a bound stays the same where the numbers between fail
any_below_skip : (test : ℕ → Bool) (n m : ℕ) → n ≤ m → ((k : ℕ) → n ≤ k → k < m → test k ≡ false)
    → any_below m test ≡ any_below n test
any_below_skip test n m up none =
    grind (
      arith,
      any_below_gives m test,
      any_below_from n test,
      any_below_gives n test,
      any_below_from m test,
      same_tests,
      cases_lt,
      both_ways,
    )

-- what is added to the empty set is all there is
pub added_to_none : (none : sets.FinSet nat_cmp) (p : ℕ) (here : Bool) → none ≡ sets.empty
    → (sets.contains none p || here) ≡ here
added_to_none none p here e =
    ap (λ t. sets.contains t p || here) e ∙ ap (λ b. b || here) (sets.contains-empty nat_cmp p)

module _ (test : ℕ → ℕ → Bool) (points old : sets.FinSet nat_cmp) where
  -- what the test has at the points of the set below n came, and nothing else
  abbrev pub AddsBelow : ℕ → sets.FinSet nat_cmp → Type 0
  AddsBelow n new = (p : ℕ)
      → sets.contains new p ≡ (sets.contains old p || any_below n (λ l. sets.contains points l && test l p))

  -- no point is below 0
  pub AddsBelow-none : AddsBelow 0 old
  AddsBelow-none p = or_false (sets.contains old p)
    where
      or_false : (a : Bool) → a ≡ (a || false)
      or_false true = refl
      or_false false = refl

  -- what the test has at the next point came
  pub AddsBelow-next : (n l : ℕ) (mid new : sets.FinSet nat_cmp) → n ≤ l → AddsBelow n mid
      → sets.contains points l ≡ true
      → ((k : ℕ) → n ≤ k → k < l → sets.contains points k ≡ false)
      → ((p : ℕ) → sets.contains new p ≡ (sets.contains mid p || test l p)) → AddsBelow (l + 1) new
  AddsBelow-next n l mid new up h has none came p =
      let at = λ (k : ℕ). sets.contains points k && test k p in
      let skip = any_below_skip at n l up (λ k lo hi. ap (λ b. b && test k p) (none k lo hi)) in
      came p ∙ ap (λ b. b || test l p) (h p ∙ ap (λ b. sets.contains old p || b) (sym skip))
      ∙ turned (sets.contains old p) (any_below l at) (test l p) (sets.contains points l) has
      ∙ ap (λ m. sets.contains old p || any_below m at) (sym (add-one l))
    where
      turned : (a b t g : Bool) → g ≡ true → ((a || b) || t) ≡ (a || ((g && t) || b))
      turned true b t true e = refl
      turned false true true true e = refl
      turned false true false true e = refl
      turned false false true true e = refl
      turned false false false true e = refl
      turned a b t false e = absurd (let w = e in cc)

  -- no point is left, and all are below the bound
  pub AddsBelow-all : (n m : ℕ) (new : sets.FinSet nat_cmp) → AddsBelow n new
      → ((k : ℕ) → n ≤ k → sets.contains points k ≡ false)
      → ((k : ℕ) → sets.contains points k ≡ true → k < m) → AddsBelow m new
  AddsBelow-all n m new h none inside p =
      h p ∙ ap (λ b. sets.contains old p || b) (same_tests _ _
      (λ i.
      let k = any_below_gives n _ i in
      any_below_from m _ k.0 (inside k.0 (and_parts _ _ k.2).0) k.2)
      (λ i.
      let k = any_below_gives m _ i in
      elim (cases_lt k.0 n) [
        | inl l ↦ any_below_from n _ k.0 l k.2
        | inr g ↦ absurd (both_ways (sets.contains points k.0) (none k.0 g) (and_parts _ _ k.2).0)
      ]))
