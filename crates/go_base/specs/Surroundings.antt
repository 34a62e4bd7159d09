-- The last liberties of the enemy strings next to a string, and what one enemy string adds to them.
use Rattle.std.specs.Prelude.{◌≡◌, ◌⊎◌, ℕ, ◌*◌, ◌==◌, ◌&&◌, Bool, true, List}
use Rattle.std.specs.Ordering.{nat_cmp}
use Rattle.std.specs.FinSet as set
use Rattle.go_rules.specs.declared.Cell.{Cell}
use Rattle.go_rules.specs.Below.{any_below}
use Rattle.go_rules.specs.Strings.{cell_at, is_liberty, liberties}
use Rattle.go_rules.specs.BesideStrings.{is_enemy, is_beside_string}

-- l is the only liberty of the string of q
unfoldable pub is_only_liberty : ℕ → List Cell → ℕ → ℕ → Bool
is_only_liberty s cells q l = (liberties s cells q == 1) && is_liberty s cells q l

-- l is the only liberty of an enemy string that is next to the string of p
unfoldable pub is_last_liberty_of_enemy : ℕ → List Cell → ℕ → ℕ → Bool
is_last_liberty_of_enemy s cells p l =
    any_below (s * s) (λ q. is_enemy (cell_at cells p) (cell_at cells q) && is_beside_string s cells p q
    && is_only_liberty s cells q l)

-- new has the points of old and the liberty of the string of q, if that string has only one; no other point came
pub record AddsLast (s : ℕ) (cells : List Cell) (q : ℕ) (old new : set.FinSet nat_cmp) : Type 0 where
  pub kept : (l : ℕ) → set.contains old l ≡ true → set.contains new l ≡ true
  pub only : (l : ℕ) → set.contains new l ≡ true → (set.contains old l ≡ true) ⊎ (is_only_liberty s cells q l ≡ true)
  pub all : (l : ℕ) → is_only_liberty s cells q l ≡ true → set.contains new l ≡ true

-- last has the liberty of the string of each point seen, if that string has only one
abbrev pub KnowsLast : ℕ → List Cell → set.FinSet nat_cmp → set.FinSet nat_cmp → Type 0
KnowsLast s cells seen last = (q : ℕ) → set.contains seen q ≡ true → (l : ℕ) → is_only_liberty s cells q l ≡ true
    → set.contains last l ≡ true
