-- The names of helpers among the fields of a pattern, and whether one of them is this.
use Rattle.std.proofs.Common.{◌≡◌, ℕ, ◌+◌, ◌<◌, Bool, true, false, cond, ◌&&◌, ◌||◌, List, [], ◌∷◌, ◌++◌, length, drop}
use Rattle.std.proofs.Common.{get_or, refl, ap, ◌∙◌, arith}
use Rattle.std.specs.List.{list_any}
use Rattle.std.specs.Str.{bytes_eq}
use Rattle.std.proofs.lemmas.List.{drop_more}
use Rattle.pat_types.specs.declared.pattern.Item.{Item}
use Rattle.helpers.specs.Fields.{names_helper, helper_names}

-- the names of some fields and of others behind them
pub helper_names-append : (xs ys : List Item) → helper_names (xs ++ ys) ≡ helper_names xs ++ helper_names ys
helper_names-append [] ys = refl
helper_names-append (x ∷ xs) ys = grind (arith, helper_names-append xs ys)

-- a field at the end that names a helper
pub helper_names-named : (xs : List Item) (x : Item) → names_helper x ≡ true
    → helper_names (xs ++ x ∷ []) ≡ helper_names xs ++ x.name ∷ []
helper_names-named xs x named = helper_names-append xs (x ∷ [])
    ∙ ap (λ b. helper_names xs ++ cond b (x.name ∷ []) []) named

-- a field at the end that names none
pub helper_names-other : (xs : List Item) (x : Item) → names_helper x ≡ false
    → helper_names (xs ++ x ∷ []) ≡ helper_names xs
helper_names-other xs x other = helper_names-append xs (x ∷ [])
    ∙ ap (λ b. helper_names xs ++ cond b (x.name ∷ []) []) other ∙ nothing (helper_names xs)
  where
    nothing : (l : List (List ℕ)) → l ++ [] ≡ l
    nothing [] = refl
    nothing (n ∷ l) = ap (λ m. n ∷ m) (nothing l)

module _ (name : List ℕ) (xs : List Item) where
  -- whether the name stands among those of the fields from the i-th on
  from : (i : ℕ) (x : Item) → i < length xs
      → list_any (λ k. bytes_eq k name) (helper_names (drop i xs))
      ≡ ((names_helper (get_or xs i x) && bytes_eq (get_or xs i x).name name)
      || list_any (λ k. bytes_eq k name) (helper_names (drop (i + 1) xs)))
  from i x within = ap (λ l. list_any (λ k. bytes_eq k name) (helper_names l)) (drop_more xs i x within)
      ∙ each (names_helper (get_or xs i x))
    where
      each : (b : Bool) → list_any (λ k. bytes_eq k name)
          (cond b ((get_or xs i x).name ∷ helper_names (drop (i + 1) xs)) (helper_names (drop (i + 1) xs)))
          ≡ ((b && bytes_eq (get_or xs i x).name name)
          || list_any (λ k. bytes_eq k name) (helper_names (drop (i + 1) xs)))
      each true = refl
      each false = refl

  -- the i-th field names it
  pub named-here : (i : ℕ) (x : Item) → i < length xs
      → (names_helper (get_or xs i x) && bytes_eq (get_or xs i x).name name) ≡ true
      → list_any (λ k. bytes_eq k name) (helper_names (drop i xs)) ≡ true
  named-here i x within here = from i x within
      ∙ ap (λ b. b || list_any (λ k. bytes_eq k name) (helper_names (drop (i + 1) xs))) here
