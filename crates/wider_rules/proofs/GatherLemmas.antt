-- Points gathered at the points of a set, one point after another, if some of these may be passed over.
use Rattle.std.proofs.Common.{◌≡◌, ◌⊎◌, ℕ, ◌+◌, ◌<◌, ◌≤◌, ◌&&◌, ◌||◌, Bool, true, false, sym, ap, subst, arith, inl}
use Rattle.std.proofs.Common.{inr, ◌∙◌}
use Rattle.std.proofs.lemmas.Bool.{cases_Bool, cases_eq, cases_lt, or_cases, or_left, or_right, both_ways, and_parts}
use Rattle.std.proofs.lemmas.Bool.{and_from}
use Rattle.std.specs.Ordering.{nat_cmp}
use Rattle.std.specs.FinSet as sets
use Rattle.go_rules.specs.Below.{any_below}
use Rattle.go_rules.proofs.Counts.{any_below_gives, any_below_from}
use Rattle.go_rules.proofs.Tests.{same_tests}

-- what the test has at points of the set came, all of it but for the points that are left from n on
pub record Gathers (test : ℕ → ℕ → Bool) (points left : sets.FinSet nat_cmp) (n : ℕ)
    (found : sets.FinSet nat_cmp) : Type 0 where
  pub within : (q : ℕ) → sets.contains left q ≡ true → sets.contains points q ≡ true
  pub only : (p : ℕ) → sets.contains found p ≡ true → (q : ℕ) × (sets.contains points q ≡ true) × (test q p ≡ true)
  pub all : (q p : ℕ) → sets.contains points q ≡ true → (sets.contains left q ≡ true → q < n) → test q p ≡ true
      → sets.contains found p ≡ true

-- fewer points are left, and those that are not have at the test no more than l has
pub record Passes (test : ℕ → ℕ → Bool) (l : ℕ) (left rest : sets.FinSet nat_cmp) : Type 0 where
  pub fewer : (q : ℕ) → sets.contains rest q ≡ true → sets.contains left q ≡ true
  pub gone : (q : ℕ) → sets.contains left q ≡ true
      → (sets.contains rest q ≡ true) ⊎ ((p : ℕ) → test q p ≡ true → test l p ≡ true)

-- a set that is empty has no member
no_member : (found : sets.FinSet nat_cmp) (q : ℕ) → found ≡ sets.empty → sets.contains found q ≡ true → ⊥
no_member found q e h = both_ways (sets.contains found q)
    (ap (λ t. sets.contains t q) e ∙ sets.contains-empty nat_cmp q) h

module _ (test : ℕ → ℕ → Bool) (points : sets.FinSet nat_cmp) where
  -- nothing came, and all points are left
  pub Gathers-none : (left found : sets.FinSet nat_cmp) → left ≡ points → found ≡ sets.empty
      → Gathers test points left 0 found
  Gathers-none left found whole none = record {
    within = λ q h. subst (λ t. sets.contains t q ≡ true) whole h;
    only = λ p h. absurd (no_member found p none h);
    all = λ q p here below t.
        let past = below (subst (λ t. sets.contains t q ≡ true) (sym whole) here) in
        absurd (omega arith);
  }

  -- of the points up to l that are left, l is one, and the others are below n
  l_or_below : (n l q : ℕ) (left : sets.FinSet nat_cmp)
      → ((k : ℕ) → n ≤ k → k < l → sets.contains left k ≡ false) → sets.contains left q ≡ true → q < l + 1
      → (q ≡ l) ⊎ (q < n)
  l_or_below n l q left none was past = elim (cases_eq q l) [
    | inl e ↦ inl e
    | inr ne ↦ elim (cases_lt q n) [
      | inl before ↦ inr before
      | inr between ↦ absurd (both_ways (sets.contains left q) (none q between (omega arith)) was)
    ]
  ]

  -- what the test has at a point that is no longer left had come before, or the test has it at l
  came_by : (n l : ℕ) (left rest old : sets.FinSet nat_cmp) → Gathers test points left n old
      → ((k : ℕ) → n ≤ k → k < l → sets.contains left k ≡ false) → Passes test l left rest → (q p : ℕ)
      → sets.contains points q ≡ true → (sets.contains rest q ≡ true → q < l + 1) → test q p ≡ true
      → (sets.contains old p ≡ true) ⊎ (test l p ≡ true)
  came_by n l left rest old h none pass q p i below t = elim (cases_Bool (sets.contains left q)) [
    | inr out ↦ inl (h.all q p i (λ was. absurd (both_ways (sets.contains left q) out was)) t)
    | inl was ↦ elim (pass.gone q was) [
      | inr same ↦ inr (same p t)
      | inl still ↦ elim (l_or_below n l q left none was (below still)) [
        | inl e ↦ inr (subst (λ x. test x p ≡ true) e t)
        | inr before ↦ inl (h.all q p i (λ _. before) t)
      ]
    ]
  ]

  -- what the test has at the next point came
  pub Gathers-next : (n l : ℕ) (left rest old new : sets.FinSet nat_cmp) → n ≤ l → Gathers test points left n old
      → sets.contains left l ≡ true → ((k : ℕ) → n ≤ k → k < l → sets.contains left k ≡ false)
      → Passes test l left rest
      → ((p : ℕ) → sets.contains new p ≡ (sets.contains old p || test l p)) → Gathers test points rest (l + 1) new
  Gathers-next n l left rest old new up h here none pass came = record {
    within = λ q i. h.within q (pass.fewer q i);
    only = λ p i. elim (or_cases _ _ (sym (came p) ∙ i)) [
      | inl before ↦ h.only p before
      | inr now ↦ (l, h.within l here, now)
    ];
    all = λ q p i below t. elim (came_by n l left rest old h none pass q p i below t) [
      | inl before ↦ came p ∙ or_left _ _ before
      | inr now ↦ came p ∙ or_right _ _ now
    ];
  }

  -- no point is left, and all are below the bound
  pub Gathers-all : (n m : ℕ) (left found : sets.FinSet nat_cmp) → Gathers test points left n found
      → ((k : ℕ) → n ≤ k → sets.contains left k ≡ false) → ((k : ℕ) → sets.contains points k ≡ true → k < m) → (p : ℕ)
      → sets.contains found p ≡ any_below m (λ q. sets.contains points q && test q p)
  Gathers-all n m left found h none inside p = same_tests _ _
      (λ i. let q = h.only p i in any_below_from m _ q.0 (inside q.0 q.1) (and_from _ _ q.1 q.2))
      (λ i.
      let q = any_below_gives m _ i in
      let both = and_parts _ _ q.2 in
      h.all q.0 p both.0
      (λ was. elim (cases_lt q.0 n) [
        | inl before ↦ before
        | inr past ↦ absurd (both_ways (sets.contains left q.0) (none q.0 past) was)
      ]) both.1)
