-- A cached question with a variant at a place.
use Rattle.std.specs.Prelude.{◌≡◌, ℕ, ◌+◌, ◌<◌, Bool, List, ◌∷◌, ◌++◌, length, take, drop, Some}
use Rattle.go_rules.specs.Position.{BoardState}
use Rattle.read_cache.specs.Kept.{Kept, variants_of}
use Rattle.read_cache.specs.Variants.{IsFirstStanding}
use Rattle.read_cache.specs.declared.variants.Variant.{Variant}

module _ {Q A : Type 0} (eq : Q → Q → Bool) (q : Q) (kept : Kept Q A) (place : ℕ) where
  -- the question is cached, and has a variant at this place
  pub record HasAt : Type 0 where
    pub variants : List (Variant A)
    pub found : Variant A
    pub is_kept : variants_of eq q kept ≡ Some variants
    pub within : place < length variants
    pub there : variants ≡ take place variants ++ found ∷ drop (place + 1) variants

  -- the question's variants, with the variant at this place before the others
  abbrev pub front_of : HasAt → List (Variant A)
  front_of at = at.found ∷ take place at.variants ++ drop (place + 1) at.variants

  -- the variant at this place is the first of the question that stands on the position, and has this answer
  pub record StandsAt (pos : BoardState) (answer : A) : Type 0 where
    pub variants : List (Variant A)
    pub is_kept : variants_of eq q kept ≡ Some variants
    pub first : IsFirstStanding pos variants place
    pub answer_is : answer ≡ first.found.answer
