-- The variants of one question, and which of them stand on a position.
use Rattle.std.specs.Prelude.{◌≡◌, ℕ, ◌+◌, ◌<◌, List, ◌∷◌, ◌++◌, length, take, drop, Contains}
use Rattle.go_rules.specs.Position.{BoardState}
use Rattle.go_base.specs.Facts.{Agrees}
use Rattle.go_base.specs.AmongFacts.{told}
use Rattle.read_cache.specs.declared.variants.Variant.{Variant}

-- how many variants of one question are cached at most
abbrev pub most_variants : ℕ
most_variants = 4

-- the variant stands on the position: its facts hold there
abbrev pub Stands : {A : Type 0} → BoardState → Variant A → Type 0
Stands pos variant = Agrees (told variant.facts) pos

-- none of the variants stands on the position
pub record NoneStands {A : Type 0} (pos : BoardState) (variants : List (Variant A)) : Type 0 where
  pub none : (variant : Variant A) → Contains variants variant → Stands pos variant → ⊥

-- the variant at place i stands on the position, and none before it does
pub record IsFirstStanding {A : Type 0} (pos : BoardState) (variants : List (Variant A)) (i : ℕ) : Type 0 where
  pub found : Variant A
  pub within : i < length variants
  pub there : variants ≡ take i variants ++ found ∷ drop (i + 1) variants
  pub stands : Stands pos found
  pub first : NoneStands pos (take i variants)
