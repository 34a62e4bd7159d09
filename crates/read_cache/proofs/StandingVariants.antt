-- Which variants stand, one after another.
use Rattle.std.proofs.Common.{◌≡◌, ◌∙◌, inl, inr, sym, ap, subst, Contains, List, [], ◌∷◌, ◌++◌, ℕ, ◌+◌, ◌-◌, ◌<◌}
use Rattle.std.proofs.Common.{le_of_lt, le_refl, arith, length, get_or, take, drop, Bool, Some}
use Rattle.std.proofs.lemmas.List.{take_more, drop_more, take-append-drop, length-take-le, get_or-append_right}
use Rattle.std.proofs.lemmas.List.Elements.{Contains-append_cases}
use Rattle.lru.proofs.Splits.{Contains-cons, Contains-nil}
use Rattle.go_rules.specs.Position.{BoardState}
use Rattle.read_cache.specs.Kept.{Kept, variants_of}
use Rattle.read_cache.specs.Places.{StandsAt}
use Rattle.read_cache.specs.Variants.{Stands, NoneStands, IsFirstStanding}
use Rattle.read_cache.specs.declared.variants.Variant.{Variant}

-- the variant at the place of the first that stands is this one
pub found_at : {A : Type 0} {pos : BoardState} {variants : List (Variant A)} {i : ℕ}
    (first : IsFirstStanding pos variants i) (d : Variant A) → get_or variants i d ≡ first.found
found_at {variants} {i} first d = grind (arith, get_or-append_right, length-take-le, le_of_lt, le_refl)

-- the answer that is read at the place is that of the first that stands
pub answer_at : {A : Type 0} {pos : BoardState} {slice vs : List (Variant A)} {i : ℕ} (first : IsFirstStanding pos vs i)
    (d : Variant A) → slice ≡ vs → (get_or slice i d).answer ≡ first.found.answer
answer_at {i} first d same = ap (λ xs. (get_or xs i d).answer) same ∙ ap (λ v. v.answer) (found_at first d)

module _ {A : Type 0} (pos : BoardState) (variants : List (Variant A)) (i : ℕ) (found : Variant A)
    (low : i < length variants) (read : found ≡ get_or variants i found)
    (before : NoneStands pos (take i variants)) where
  -- the variant at place i is the first that stands, where none before it does
  pub IsFirstStanding-at : Stands pos found → IsFirstStanding pos variants i
  IsFirstStanding-at stands = record {
    found = found;
    within = low;
    there = sym (take-append-drop i variants)
        ∙ ap (λ rest. take i variants ++ rest) (drop_more variants i found low
        ∙ ap (λ v. v ∷ drop (i + 1) variants) (sym read));
    stands = stands;
    first = before;
  }

  -- where it does not stand either, none up to it does
  pub NoneStands-more : (Stands pos found → ⊥) → NoneStands pos (take (i + 1) variants)
  NoneStands-more not = record {
    none = λ v there stands.
        elim (Contains-append_cases (take i variants) (found ∷ []) v
        (subst (λ vs. Contains vs v) (take_more variants i found low
        ∙ ap (λ w. take i variants ++ w ∷ []) (sym read)) there)) [
          | inl earlier ↦ before.none v earlier stands
          | inr last ↦ elim (Contains-cons found [] v last) [
            | inl same ↦ not (subst (Stands pos) (sym same) stands)
            | inr none ↦ Contains-nil v none
          ]
        ];
  }

module _ {Q A : Type 0} (eq : Q → Q → Bool) (q : Q) (pos : BoardState) (old : Kept Q A) where
  -- the first of the kept variants that stands, with its answer
  pub StandsAt-by : (items slice again : List (Variant A)) (place : ℕ) (d : Variant A)
      → variants_of eq q old ≡ Some items
      → slice ≡ items → again ≡ items → IsFirstStanding pos slice place
      → StandsAt eq q old place pos (get_or again place d).answer
  StandsAt-by items slice again place d kept is is_again first =
      let here = subst (λ vs. IsFirstStanding pos vs place) is first in
      record { variants = items; is_kept = kept; first = here; answer_is = answer_at here d is_again }
