-- What a cache holds: questions, the last used first, each with its variants, the last cached or found first.
use Rattle.std.specs.Prelude.{◌≡◌, ℕ, ◌-◌, ◌+◌, ◌≤◌, Bool, List, [], ◌∷◌, ◌++◌, length, take, drop, Contains}
use Rattle.std.specs.Prelude.{Option, Some}
use Rattle.std.specs.Option.{option_map_or}
use Rattle.std.specs.Map.{lookup, lookup_entry, remove_entry}
use Rattle.go_rules.specs.Position.{BoardState}
use Rattle.read_cache.specs.Variants.{NoneStands, IsFirstStanding, Stands, most_variants}
use Rattle.read_cache.specs.declared.variants.Variant.{Variant}

-- the cached questions with their variants, the last used first, and the capacity: how many questions there may be
abbrev pub Kept : Type 0 → Type 0 → Type 0
Kept Q A = List (Q × List (Variant A)) × ℕ

-- nothing is cached, and there may be capacity questions
abbrev pub no_questions : {Q A : Type 0} → ℕ → Kept Q A
no_questions capacity = ([], capacity)

-- the variant is right for a question of this meaning: its answer is the question's answer on each position on which
-- its facts hold
pub record IsRight {A : Type 0} (meaning : BoardState → A) (variant : Variant A) : Type 0 where
  pub right : (pos : BoardState) → Stands pos variant → variant.answer ≡ meaning pos

-- variants has from one to four variants, each of them right for a question of this meaning
pub record AreVariants {A : Type 0} (meaning : BoardState → A) (variants : List (Variant A)) : Type 0 where
  pub right : (variant : Variant A) → Contains variants variant → IsRight meaning variant
  pub some : 1 ≤ length variants
  pub few : length variants ≤ most_variants

module _ {Q A : Type 0} where
  -- each cached question has from one to four variants, and each of them is right
  pub record IsSound (meaning : Q → BoardState → A) (questions : List (Q × List (Variant A))) : Type 0 where
    pub each : (q : Q) (variants : List (Variant A)) → Contains questions (q, variants)
        → AreVariants (meaning q) variants

  module _ (eq : Q → Q → Bool) (q : Q) where
    -- the cached variants of the question; nothing if it is not cached
    abbrev pub variants_of : Kept Q A → Option (List (Variant A))
    variants_of kept = lookup (eq q) kept.0

    -- the question goes first with these variants; if it was not cached before, the last question past the capacity is
    -- dropped
    abbrev pub put_first : List (Variant A) → Kept Q A → Kept Q A
    put_first variants kept = (
      option_map_or (λ e. (e.0, variants) ∷ remove_entry (eq q) kept.0) (lookup_entry (eq q) kept.0)
          ((q, variants) ∷ take (kept.1 - 1) kept.0),
      kept.1,
    )

    -- the variant, and after it the first three of the question's cached variants
    abbrev pub variants_with : Variant A → Kept Q A → List (Variant A)
    variants_with variant kept = variant ∷ option_map_or (λ variants. take 3 variants) (variants_of kept) []

    -- the variant goes first among the question's variants, and the question goes first
    abbrev pub kept_first : Variant A → Kept Q A → Kept Q A
    kept_first variant kept = put_first (variants_with variant kept) kept

    -- front has the cached variants of the question, with the first that stands on the position before the others
    pub record IsBrought (pos : BoardState) (old : Kept Q A) (front : List (Variant A)) : Type 0 where
      pub variants : List (Variant A)
      pub place : ℕ
      pub kept : variants_of old ≡ Some variants
      pub first : IsFirstStanding pos variants place
      pub front_is : front ≡ first.found ∷ take place variants ++ drop (place + 1) variants

    -- the answer is that of the first cached variant of the question that stands on the position; in new that variant
    -- goes first, and its question goes first
    pub record IsFound (pos : BoardState) (old new : Kept Q A) (answer : A) : Type 0 where
      pub front : List (Variant A)
      pub brought : IsBrought pos old front
      pub answer_is : answer ≡ brought.first.found.answer
      pub new_is : new ≡ put_first front old

    -- no cached variant of the question stands on the position
    pub record IsMissing (pos : BoardState) (old : Kept Q A) : Type 0 where
      pub none : (variants : List (Variant A)) → variants_of old ≡ Some variants → NoneStands pos variants

-- P holds of each cached question with each of its variants
pub record HoldsOfEach {Q A : Type 0} (P : Q → Variant A → Type 0) (kept : Kept Q A) : Type 0 where
  pub each : (q : Q) (variants : List (Variant A)) (variant : Variant A) → Contains kept.0 (q, variants)
      → Contains variants variant → P q variant
