-- Two lists whose elements at the same place belong together, and that grow by one element each.
use Rattle.std.proofs.Common.{◌≡◌, ℕ, zero, suc, List, [], ◌∷◌, ◌++◌, length, Some, slice_get, refl, subst, arith}
use Rattle.std.proofs.lemmas.Option.{none-some, same_Some}

module _ {A B : Type 0} (R : A → B → Type 0) (x : A) (y : B) (is : R x y) where
  -- with one pair more, each element of the first list has its own at the same place of the second
  pub paired-more : (xs : List A) (ys : List B) → length ys ≡ length xs
      → ((n : ℕ) (a : A) → slice_get xs n ≡ Some a → (b : B) × (slice_get ys n ≡ Some b) × R a b)
      → (n : ℕ) (a : A) → slice_get (xs ++ x ∷ []) n ≡ Some a
      → (b : B) × (slice_get (ys ++ y ∷ []) n ≡ Some b) × R a b
  paired-more [] [] same each zero a there = (y, refl, subst (λ o. R o y) (same_Some x a there) is)
  paired-more [] [] same each (suc n) a there = absurd (none-some a there)
  paired-more [] (c ∷ ys) same each n a there = grind arith
  paired-more (z ∷ xs) [] same each n a there = grind arith
  paired-more (z ∷ xs) (c ∷ ys) same each zero a there = each zero a there
  paired-more (z ∷ xs) (c ∷ ys) same each (suc n) a there =
      paired-more xs ys (omega (arith, same)) (λ k. each (suc k)) n a there
