-- What a play takes. The strings without a liberty are next to the stone just put, and they are gathered whole, side by
-- side.
use Rattle.std.specs.Prelude.{◌≡◌, ℕ, ◌*◌, ◌<◌, ◌==◌, ◌&&◌, ◌||◌, Bool, true, List, Some}
use Rattle.std.specs.Ordering.{nat_cmp}
use Rattle.std.specs.FinSet as set
use Rattle.go_rules.specs.declared.Cell.{Cell}
use Rattle.go_rules.specs.declared.Colour.{Colour}
use Rattle.go_rules.specs.Board.{are_neighbours}
use Rattle.go_rules.specs.Below.{any_below}
use Rattle.go_rules.specs.Strings.{cell_at, same_cell, string_at, Path}
use Rattle.go_rules.specs.Neighbourhood.{neighbourhood_of}
use Rattle.go_rules.specs.Play.{is_taken}
use Rattle.go_rules.specs.Position.{other, stone_of}
use Rattle.go_base.specs.Sides.{neighbour_at}
use Rattle.go_base.specs.Views.{alone}

-- each stone that is taken after c put a stone at p is joined by a path to a taken neighbour of p
abbrev pub TakenBeside : ℕ → List Cell → Colour → ℕ → Type 0
TakenBeside s put c p = (q : ℕ) → q < s * s → is_taken s put c q ≡ true
    → (x : ℕ) × (x < s * s) × (are_neighbours s p x ≡ true) × (is_taken s put c x ≡ true) × Path s put x q

-- for each of its points, the set has the whole string of the point
abbrev pub HasWholeStrings : ℕ → List Cell → set.FinSet nat_cmp → Type 0
HasWholeStrings s cells stones = (q : ℕ) → set.contains stones q ≡ true → (r : ℕ)
    → set.contains (string_at s cells q) r ≡ true → set.contains stones r ≡ true

-- the set has the taken strings next to p on its first n sides, and nothing but whole strings that are taken
pub record Takes (s : ℕ) (put : List Cell) (c : Colour) (p n : ℕ) (taken : set.FinSet nat_cmp) : Type 0 where
  pub only : (q : ℕ) → set.contains taken q ≡ true → (q < s * s) × (is_taken s put c q ≡ true)
  pub whole : HasWholeStrings s put taken
  pub all : (k : ℕ) → k < n → (r : ℕ) → neighbour_at s p k ≡ Some r → is_taken s put c r ≡ true → (q : ℕ)
      → Path s put r q → set.contains taken q ≡ true

-- r is a neighbour of p, or is in the neighbourhood of a neighbour of p that holds an enemy of c
unfoldable pub near_taken : ℕ → List Cell → Colour → ℕ → ℕ → Bool
near_taken s cells c p r =
    any_below (s * s) (λ q. are_neighbours s p q
    && ((r == q) || (same_cell (cell_at cells q) (stone_of (other c)) && neighbourhood_of s cells (alone q) r)))
