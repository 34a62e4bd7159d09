-- The points of a set are tried one after another, each once.
use Rattle.std.proofs.Common.{◌≡◌, ℕ, ◌*◌, ◌<◌, ◌⊎◌, ◌&&◌, ◌||◌, Bool, true, false, not, eqb, refl, ap, ◌∙◌, inl}
use Rattle.std.proofs.Common.{inr, arith}
use Rattle.std.proofs.lemmas.Bool.{cases_Bool, both_ways, or_cases, or_right, or_left, eqb-true, eq-eqb}
use Rattle.std.specs.Ordering.{nat_cmp}
use Rattle.std.specs.FinSet as sets
use Rattle.go_rules.specs.Below.{count_below, any_below}
use Rattle.go_rules.proofs.Counts.{count_below_less, any_below_from}
use Rattle.go_rules.proofs.Sets.{contains-insert_nat}
use Rattle.go_base.specs.Views.{neighbours_of}

-- nothing is in the empty set
pub none_tried : (tried : sets.FinSet nat_cmp) → tried ≡ sets.empty → (q : ℕ) → sets.contains tried q ≡ false
none_tried tried none q = ap (λ k. sets.contains k q) none ∙ sets.contains-empty nat_cmp q

-- what was tried is the newest point or was tried before
pub newest_or_before : (old new : sets.FinSet nat_cmp) (p : ℕ) → new ≡ sets.insert old p → (q : ℕ)
    → sets.contains new q ≡ true
    → (q ≡ p) ⊎ (sets.contains old q ≡ true)
newest_or_before old new p is q h = grind (arith, or_cases, contains-insert_nat, eqb-true)

-- fewer points are left once one more was tried
pub fewer_left : (n : ℕ) (old new : sets.FinSet nat_cmp) (p : ℕ) → new ≡ sets.insert old p → p < n
    → sets.contains old p ≡ false
    → count_below n (λ q. not (sets.contains new q)) < count_below n (λ q. not (sets.contains old q))
fewer_left n old new p is inside yet =
    count_below_less n (λ q. not (sets.contains new q)) (λ q. not (sets.contains old q)) (λ k l h. still k h) p inside
    (ap not (has p ∙ or_left _ _ (eq-eqb p p refl))) (ap not yet)
  where
    has : (q : ℕ) → sets.contains new q ≡ (eqb q p || sets.contains old q)
    has q = ap (λ k. sets.contains k q) is ∙ contains-insert_nat old p q

    still : (q : ℕ) → not (sets.contains new q) ≡ true → not (sets.contains old q) ≡ true
    still q h = elim (cases_Bool (sets.contains old q)) [
      | inl t ↦ absurd (both_ways (not (sets.contains new q)) (ap not (has q ∙ or_right (eqb q p) (sets.contains old
          q) t)) h)
      | inr f ↦ ap not f
    ]

-- the sides of a known point are sides of the known points
pub sides_of_known : (s p : ℕ) (known : ℕ → Bool) (r : ℕ) → p < s * s → (known p && neighbours_of s p r) ≡ true
    → any_below (s * s) (λ k. known k && neighbours_of s k r) ≡ true
sides_of_known s p known r on h = any_below_from (s * s) (λ k. known k && neighbours_of s k r) p on h

-- where each point was tried, none is left
pub none_left : (points tried : ℕ → Bool) → ((q : ℕ) → points q ≡ true → tried q ≡ true) → (q : ℕ) → tried q ≡ false
    → points q ≡ false
none_left points tried each q yet = grind (arith, cases_Bool, both_ways)
