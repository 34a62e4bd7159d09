-- Sets that two others were joined to, and what is left of a set.
use Rattle.std.proofs.Common.{◌≡◌, ◌∙◌, ◌⊎◌, ℕ, ◌&&◌, true, not, sym, ap}
use Rattle.std.proofs.lemmas.Bool.{or_cases, or_left, or_right}
use Rattle.std.specs.Ordering.{nat_cmp}
use Rattle.std.specs.Cmp.{nat_cmp_total}
use Rattle.std.specs.FinSet as sets

-- A set that two others were joined to.
module _ (first second all : sets.FinSet nat_cmp) (p : ℕ) (joined : all ≡ sets.union first second) where
  -- a member is one of either
  pub in_either : sets.contains all p ≡ true → (sets.contains first p ≡ true) ⊎ (sets.contains second p ≡ true)
  in_either inside = or_cases (sets.contains first p) (sets.contains second p)
      (sym (ap (λ s. sets.contains s p) joined ∙ sets.contains-union nat_cmp_total first second p) ∙ inside)

  -- a member of the first is one
  pub in_first : sets.contains first p ≡ true → sets.contains all p ≡ true
  in_first inside = ap (λ s. sets.contains s p) joined ∙ sets.contains-union nat_cmp_total first second p
      ∙ or_left (sets.contains first p) (sets.contains second p) inside

  -- and of the second
  pub in_second : sets.contains second p ≡ true → sets.contains all p ≡ true
  in_second inside = ap (λ s. sets.contains s p) joined ∙ sets.contains-union nat_cmp_total first second p
      ∙ or_right (sets.contains first p) (sets.contains second p) inside

-- what is left of a set without another
pub in_rest : (all gone rest : sets.FinSet nat_cmp) (q : ℕ) → rest ≡ sets.difference all gone
    → sets.contains rest q ≡ (sets.contains all q && not (sets.contains gone q))
in_rest all gone rest q e = ap (λ t. sets.contains t q) e ∙ sets.contains-difference nat_cmp_total all gone q
