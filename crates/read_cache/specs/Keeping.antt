-- How a question through a cache changes what is cached and what is counted: the answer was cached already; or it was
-- fresh, and then it is cached first or there was no memory to cache it.
use Rattle.std.specs.Prelude.{◌≡◌, ℕ, ◌+◌, ◌-◌, ◌^◌, ◌≤◌, ◌⊎◌, Bool, Option, None, IfSome, IfNone, min}
use Rattle.go_rules.specs.Position.{BoardState}
use Rattle.go_base.specs.Facts.{Agrees}
use Rattle.go_base.specs.AmongFacts.{told}
use Rattle.go_base.specs.declared.facts.Facts.{Facts}
use Rattle.read_cache.specs.declared.variants.Variant.{Variant}
use Rattle.read_cache.specs.Kept.{Kept, IsFound, IsMissing, kept_first, variants_of, no_questions}

-- the greatest value of a count
abbrev pub most_counted : ℕ
most_counted = 2 ^ 64 - 1

-- a count raised by n; it stops at the greatest value
abbrev pub raised : ℕ → ℕ → ℕ
raised count n = min (count + n) most_counted

-- how many answers were fresh, how many of these were not cached for want of memory, and what is cached
pub record Keeping (Q A : Type 0) : Type 0 where
  pub fresh : ℕ
  pub refused : ℕ
  pub kept : Kept Q A

-- no question was asked yet; answers to at most capacity questions may be cached
abbrev pub first_keeping : {Q A : Type 0} → ℕ → Keeping Q A
first_keeping capacity = record { fresh = 0; refused = 0; kept = no_questions capacity }

-- the answer to the question rests on facts that hold on the position
pub record RestsOn {Q A : Type 0} (Rests : Q → Variant A → Type 0) (q : Q) (pos : BoardState) (answer : A) : Type 0
  where
    pub facts : Facts
    pub holds : Agrees (told facts) pos
    pub rests : Rests q (record { facts = facts; answer = answer })

module _ {Q A : Type 0} (eq : Q → Q → Bool) (q : Q) where
  -- the answer came from the cache: no count has changed
  pub record WasKept (pos : BoardState) (answer : A) (old new : Keeping Q A) : Type 0 where
    pub found : IsFound eq q pos old.kept new.kept answer
    pub fresh : new.fresh ≡ old.fresh
    pub refused : new.refused ≡ old.refused

  -- the answer is now the first variant of the first cached question, with facts on which it rests and which hold on
  -- the position
  pub record IsKeptFirst (Rests : Q → Variant A → Type 0) (pos : BoardState) (answer : A) (old new : Keeping Q A)
      : Type 0 where
    pub facts : Facts
    pub holds : Agrees (told facts) pos
    pub rests : Rests q (record { facts = facts; answer = answer })
    pub kept : new.kept ≡ kept_first eq q (record { facts = facts; answer = answer }) old.kept
    pub refused : new.refused ≡ old.refused

  -- the question was not cached and there was no memory for its answer, and this was counted
  pub record WasRefused (old new : Keeping Q A) : Type 0 where
    pub not_kept : variants_of eq q old.kept ≡ None
    pub kept : new.kept ≡ old.kept
    pub refused : new.refused ≡ raised old.refused 1

  -- the answer was fresh: no cached variant of the question stands on the position; the answer was counted, and was
  -- cached or refused
  pub record WasFresh (Rests : Q → Variant A → Type 0) (pos : BoardState) (answer : A) (old new : Keeping Q A)
      : Type 0 where
    pub missing : IsMissing eq q pos old.kept
    pub fresh : new.fresh ≡ raised old.fresh 1
    pub keeping : IsKeptFirst Rests pos answer old new ⊎ WasRefused old new

  -- the question was answered: without an effort the answer came from the cache, with an effort it was fresh and its
  -- reading may take that effort
  pub record WasAnswered {E : Type 0} (Rests : Q → Variant A → Type 0) (Takes : E → Type 0) (pos : BoardState)
      (answer : A) (effort : Option E) (old new : Keeping Q A) : Type 0 where
    pub kept : IfNone effort (WasKept pos answer old new)
    pub fresh : IfSome effort (λ _. WasFresh Rests pos answer old new)
    pub takes : IfSome effort Takes

  -- new is old after the question was asked once
  abbrev pub WasAsked : (Q → Variant A → Type 0) → BoardState → A → Keeping Q A → Keeping Q A → Type 0
  WasAsked Rests pos answer old new = WasFresh Rests pos answer old new ⊎ WasKept pos answer old new

-- new is old after any number of questions: as many questions may be cached, and no count has fallen
pub record Follows {Q A : Type 0} (old new : Keeping Q A) : Type 0 where
  pub capacity : new.kept.1 ≡ old.kept.1
  pub fresh : old.fresh ≤ new.fresh
  pub refused : old.refused ≤ new.refused
