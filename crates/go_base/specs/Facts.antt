-- Facts about a position that a reading has seen, and the positions that agree with them.
use Rattle.std.specs.Prelude.{◌≡◌, ℕ, ◌*◌, ◌<◌, Bool, IsTrue, ◌⊎◌, Option, Some, None, IfSome}
use Rattle.std.proofs.Common.{inl, inr}
use Rattle.std.specs.Coded.{le_prop}
use native.Mathlib.Nat.{ℕ_set}
use mathlib.Core.Sum.{⊎_set}
use Rattle.go_rules.specs.declared.Cell.{Cell}
use Rattle.go_rules.specs.declared.Cell.TheVariants.{Empty}
use Rattle.go_rules.specs.declared.Colour.{Colour}
use Rattle.go_rules.specs.Strings.{cell_at}
use Rattle.go_rules.specs.Position.{BoardState, IsPosition, is_banned}

-- a fact about a position: its size, the cell of a point, or whether the ban forbids a play
pub data Fact : Type 0 where
  SizeIs : ℕ → Fact
  CellIs : ℕ → Cell → Fact
  BanIs : ℕ → Colour → Bool → Fact

-- the fact is true of the position
abbrev pub IsFactOf : BoardState → Fact → Type 0
IsFactOf pos (SizeIs n) = pos.size ≡ n
IsFactOf pos (CellIs p cell) = cell_at pos.cells p ≡ cell
IsFactOf pos (BanIs p c forbidden) = is_banned pos.ban c p ≡ forbidden

-- pos is a position, and each fact seen is true of it
pub record Agrees (seen : Fact → Bool) (pos : BoardState) : Type 0 where
  pub sound : IsPosition pos
  pub each : (fact : Fact) → IsTrue (seen fact) → IsFactOf pos fact

-- each fact seen before is seen now
pub record Grows (before now : Fact → Bool) : Type 0 where
  pub kept : (fact : Fact) → IsTrue (before fact) → IsTrue (now fact)

-- the fact's point, if it has one, is in the set S
abbrev pub IsAbout : (ℕ → Bool) → Fact → Type 0
IsAbout S (SizeIs n) = Unit {0}
IsAbout S (CellIs p cell) = IsTrue (S p)
IsAbout S (BanIs p c forbidden) = IsTrue (S p)

-- each fact that came is about a point of S or is a size
pub record AddsIn (before now : Fact → Bool) (S : ℕ → Bool) : Type 0 where
  pub added : (fact : Fact) → IsTrue (now fact) → IsTrue (before fact) ⊎ IsAbout S fact

-- no fact came except this fact
pub record AddsOnly (before now : Fact → Bool) (fact : Fact) : Type 0 where
  pub added : (other : Fact) → IsTrue (now other) → IsTrue (before other) ⊎ (other ≡ fact)

-- no fact about a ban came
pub record AddsNoBan (before now : Fact → Bool) : Type 0 where
  pub was : (p : ℕ) (c : Colour) (forbidden : Bool) → IsTrue (now (BanIs p c forbidden))
      → IsTrue (before (BanIs p c forbidden))

-- the only fact about a ban that may have come is whether c may play at p
pub record AddsBanOf (before now : Fact → Bool) (p : ℕ) (c : Colour) : Type 0 where
  pub added : (q : ℕ) (k : Colour) (forbidden : Bool) → IsTrue (now (BanIs q k forbidden))
      → IsTrue (before (BanIs q k forbidden)) ⊎ ((q ≡ p) × (k ≡ c))

-- a position that agrees with the facts seen now agrees with the facts seen before
pub agrees_before : {before now : Fact → Bool} {pos : BoardState} → Grows before now → Agrees now pos
    → Agrees before pos
agrees_before g a = record { sound = a.sound; each = λ fact h. a.each fact (g.kept fact h) }

-- facts that stay the same satisfy Grows
pub Grows-refl : (seen : Fact → Bool) → Grows seen seen
Grows-refl seen = record { kept = λ _ h. h }

-- if the facts grow from a to b and from b to c, they grow from a to c
pub Grows-trans : {a b c : Fact → Bool} → Grows a b → Grows b c → Grows a c
Grows-trans g h = record { kept = λ fact i. h.kept fact (g.kept fact i) }

-- a position that agrees with the facts has the size that was seen
pub same_size : {seen : Fact → Bool} {pos : BoardState} {n : ℕ} → IsTrue (seen (SizeIs n)) → Agrees seen pos
    → pos.size ≡ n
same_size {n} told a = a.each (SizeIs n) told

-- facts that stay the same satisfy AddsIn
pub AddsIn-refl : (seen : Fact → Bool) (S : ℕ → Bool) → AddsIn seen seen S
AddsIn-refl seen S = record { added = λ _ h. inl h }

-- a fact about a point of S is about a point of each larger set T
IsAbout-mono : (S T : ℕ → Bool) (fact : Fact) → ((p : ℕ) → IsTrue (S p) → IsTrue (T p)) → IsAbout S fact
    → IsAbout T fact
IsAbout-mono S T (SizeIs n) h i = tt
IsAbout-mono S T (CellIs p cell) h i = h p i
IsAbout-mono S T (BanIs p c forbidden) h i = h p i

-- if the facts that come in each of two steps are about points of S, so are the facts that come in both together
pub AddsIn-trans : {a b c : Fact → Bool} {S : ℕ → Bool} → AddsIn a b S → AddsIn b c S → AddsIn a c S
AddsIn-trans g h = record { added = λ fact i. elim (h.added fact i) [ inl j ↦ g.added fact j | inr j ↦ inr j ] }

-- facts that came about points of S came about points of each larger set T
pub AddsIn-mono : {a b : Fact → Bool} {S T : ℕ → Bool} → AddsIn a b S → ((p : ℕ) → IsTrue (S p) → IsTrue (T p))
    → AddsIn a b T
AddsIn-mono {S} {T} g m =
    record { added = λ fact i. elim (g.added fact i) [ inl j ↦ inl j | inr j ↦ inr (IsAbout-mono S T fact m j) ] }

-- facts that stay the same satisfy AddsNoBan
pub AddsNoBan-refl : (seen : Fact → Bool) → AddsNoBan seen seen
AddsNoBan-refl seen = record { was = λ _ _ _ h. h }

-- if neither of two steps adds a fact about a ban, both together add none
pub AddsNoBan-trans : {a b c : Fact → Bool} → AddsNoBan a b → AddsNoBan b c → AddsNoBan a c
AddsNoBan-trans g h = record { was = λ p k x i. g.was p k x (h.was p k x i) }

-- IfSome o P has at most one proof if each P a has at most one
IfSome-prop : {A : Type 0} (o : Option A) (P : A → Type 0) → ((a : A) → IsProp (P a)) → IsProp (IfSome o P)
IfSome-prop None P h = hlevel
IfSome-prop (Some a) P h = h a

-- the claim that the ban's point is on the board and empty has at most one proof
ban-prop : (pos : BoardState)
    → IsProp (IfSome pos.ban (λ b. (b.0 < pos.size * pos.size) × (cell_at pos.cells b.0 ≡ Empty)))
ban-prop pos = IfSome-prop pos.ban _ (λ b. hlevel (le_prop, ⊎_set))

-- the claim that a board is a position has at most one proof
IsPosition-prop : (pos : BoardState) → IsProp (IsPosition pos)
IsPosition-prop pos = hlevel (le_prop, ℕ_set, ban-prop)

-- the claim that a fact is true of a position has at most one proof
IsFactOf-prop : (pos : BoardState) (fact : Fact) → IsProp (IsFactOf pos fact)
IsFactOf-prop pos (SizeIs n) = hlevel (ℕ_set pos.size n)
IsFactOf-prop pos (CellIs p cell) = hlevel ⊎_set
IsFactOf-prop pos (BanIs p c forbidden) = hlevel ⊎_set

-- the claim that a position agrees with the facts has at most one proof
pub Agrees-prop : (seen : Fact → Bool) (pos : BoardState) → IsProp (Agrees seen pos)
Agrees-prop seen pos = hlevel (IsPosition-prop, IsFactOf-prop)

-- the claim that two bans are equal has at most one proof
pub ban_set : (a b : Option (ℕ × Colour)) → IsProp (a ≡ b)
ban_set a b = hlevel (⊎_set, ℕ_set)
