-- What is said of each side of a point, one side after another.
use Rattle.std.proofs.Common.{◌≡◌, ℕ, ◌+◌, ◌<◌, Some, sym, subst, arith, ◌∙◌}
use Rattle.std.proofs.lemmas.Bool.{cases_eq}
use Rattle.go_base.specs.Sides.{neighbour_at}

-- the points that two equal sides give are equal
pub same_side : {q r : ℕ} → Some q ≡ Some r → q ≡ r
same_side e = cc

module _ (s p n : ℕ) (P : ℕ → Type 0) (before : (k : ℕ) → k < n → (r : ℕ) → neighbour_at s p k ≡ Some r → P r) where
  -- what holds of the point that each of the first n sides gives, and of that of the next, holds one side further
  pub each_next : ((r : ℕ) → neighbour_at s p n ≡ Some r → P r)
      → (k : ℕ) → k < n + 1 → (r : ℕ) → neighbour_at s p k ≡ Some r → P r
  each_next here k l r at = grind (arith, cases_eq)

  -- where the next side gives q, it is enough that it holds of q
  pub each_with : (q : ℕ) → neighbour_at s p n ≡ Some q → P q
      → (k : ℕ) → k < n + 1 → (r : ℕ) → neighbour_at s p k ≡ Some r → P r
  each_with q is here = each_next (λ r at. subst P (same_side (sym is ∙ at)) here)

  -- where the next side is off the board, nothing more is asked
  pub each_off : ((r : ℕ) → neighbour_at s p n ≡ Some r → ⊥)
      → (k : ℕ) → k < n + 1 → (r : ℕ) → neighbour_at s p k ≡ Some r → P r
  each_off none = each_next (λ r at. absurd (none r at))
