-- The first cell of the drawing that passes a test, row by row.
use Rattle.std.proofs.Common.{◌≡◌, ℕ, zero, suc, ◌+◌, ◌<◌, Bool, true, false, cond, not, List, [], ◌∷◌, map}
use Rattle.std.proofs.Common.{Some, None, refl, sym, ap, ◌∙◌, subst, arith}
use Rattle.std.specs.List.{flat_map, range_with_len, find, list_all}
use Rattle.std.specs.Option.{option_or}
use Rattle.std.proofs.lemmas.List.Folds.{find-append}
use Rattle.std.proofs.lemmas.Bool.{and_from, and_parts}

module _ {X Z : Type 0} (test : Z → Bool) (cells : X → List Z) (strip : ℕ → X) where
  -- the first that passes is that of the first strip that has one
  pub first_of_strip : (a n i j : ℕ) (z : Z) → i < n → a + i ≡ j
      → ((k : ℕ) → k < j → find test (cells (strip k)) ≡ None) → find test (cells (strip j)) ≡ Some z
      → find test (flat_map cells (map strip (range_with_len a n))) ≡ Some z
  first_of_strip a zero i j z low at before here = absurd (omega arith)
  first_of_strip a (suc n) zero j z low at before here =
      let same : j ≡ a = omega arith in
      find-append test (cells (strip a)) (flat_map cells (map strip (range_with_len (a + 1) n)))
      ∙ ap (λ o. option_or o (find test (flat_map cells (map strip (range_with_len (a + 1) n)))))
      (subst (λ k. find test (cells (strip k)) ≡ Some z) same here)
  first_of_strip a (suc n) (suc i) j z low at before here =
      find-append test (cells (strip a)) (flat_map cells (map strip (range_with_len (a + 1) n)))
      ∙ ap (λ o. option_or o (find test (flat_map cells (map strip (range_with_len (a + 1) n)))))
      (before a (omega arith))
      ∙ first_of_strip (a + 1) n i j z (omega arith) (omega arith) before here

  -- none passes if no strip has one
  pub none_of_strips : (a n : ℕ) → ((k : ℕ) → k < a + n → find test (cells (strip k)) ≡ None)
      → find test (flat_map cells (map strip (range_with_len a n))) ≡ None
  none_of_strips a zero none = refl
  none_of_strips a (suc n) none =
      find-append test (cells (strip a)) (flat_map cells (map strip (range_with_len (a + 1) n)))
      ∙ ap (λ o. option_or o (find test (flat_map cells (map strip (range_with_len (a + 1) n)))))
      (none a (omega arith))
      ∙ none_of_strips (a + 1) n (λ k below. none k (omega (arith, below)))

module _ {Z : Type 0} (test : Z → Bool) where
  -- one element that passes is the first
  pub passes_alone : (z : Z) → test z ≡ true → find (λ y. not (test y)) (z ∷ []) ≡ None
  passes_alone z passes = ap (λ b. cond (not b) (Some z) None) passes

  -- one element that fails is the first that fails
  pub fails_alone : (z : Z) → test z ≡ false → find (λ y. not (test y)) (z ∷ []) ≡ Some z
  fails_alone z fails = ap (λ b. cond (not b) (Some z) None) fails

  -- if none fails, all pass
  pub all_pass : (zs : List Z) → find (λ y. not (test y)) zs ≡ None → list_all test zs ≡ true
  all_pass [] none = refl
  all_pass (z ∷ zs) none = by (test z) refl (λ rest. all_pass zs rest)
    where
      by : (b : Bool) → test z ≡ b → (find (λ y. not (test y)) zs ≡ None → list_all test zs ≡ true)
          → list_all test (z ∷ zs) ≡ true
      by true passes rest = and_from (test z) (list_all test zs) passes
          (rest (sym (ap (λ b. cond (not b) (Some z) (find (λ y. not (test y)) zs)) passes) ∙ none))
      by false fails rest =
          let first : Some z ≡ None =
          sym (ap (λ b. cond (not b) (Some z) (find (λ y. not (test y)) zs)) fails) ∙ none in cc

  -- if all pass, none fails
  pub none_fails : (zs : List Z) → list_all test zs ≡ true → find (λ y. not (test y)) zs ≡ None
  none_fails [] all = refl
  none_fails (z ∷ zs) all =
      let parts = and_parts (test z) (list_all test zs) all in
      ap (λ b. cond (not b) (Some z) (find (λ y. not (test y)) zs)) parts.0 ∙ none_fails zs parts.1
