-- The enemy strings next to a string, each named by the least of its points.
use Rattle.std.specs.Prelude.{◌≡◌, ◌⊎◌, ℕ, ◌*◌, ◌<◌, ◌&&◌, Bool, true, false, not, List}
use Rattle.std.specs.Ordering.{nat_cmp}
use Rattle.std.specs.FinSet as set
use Rattle.go_rules.specs.declared.Cell.{Cell}
use Rattle.go_rules.specs.BesideStrings.{is_enemy, is_beside_string}
use Rattle.go_rules.specs.Below.{any_below, set_below}
use Rattle.go_rules.specs.Board.{are_neighbours}
use Rattle.go_rules.specs.Strings.{cell_at, is_in_string, IsInString}

-- r is the least point of an enemy string that is next to the string of p
unfoldable pub is_boundary : ℕ → List Cell → ℕ → ℕ → Bool
is_boundary s cells p r =
    is_enemy (cell_at cells p) (cell_at cells r)
    && not (any_below r (is_in_string s cells r))
    && any_below (s * s) (λ q. is_in_string s cells r q && is_beside_string s cells p q)

-- r holds an enemy of the stone at p, is the least point of its string, and a stone of that string is a neighbour of a
-- stone of the string of p
pub record IsBoundary (s : ℕ) (cells : List Cell) (p r : ℕ) : Type 0 where
  pub enemy : is_enemy (cell_at cells p) (cell_at cells r) ≡ true
  pub least : (k : ℕ) → k < r → IsInString s cells r k → ⊥
  pub beside : (q : ℕ) × IsInString s cells r q × ((x : ℕ) × IsInString s cells p x × (are_neighbours s x q ≡ true))

-- the least points of the enemy strings that are next to the string of p
unfoldable pub boundary_points : ℕ → List Cell → ℕ → set.FinSet nat_cmp
boundary_points s cells p = set_below (s * s) (is_boundary s cells p)

-- r is the least point of the string of q
pub record LeastOf (s : ℕ) (cells : List Cell) (q r : ℕ) : Type 0 where
  pub inside : is_in_string s cells q r ≡ true
  pub least : (k : ℕ) → k < r → is_in_string s cells q k ≡ false

-- new has the points of old and the least point of the string of q; an empty q has no string, so no point comes
pub record AddsLeast (s : ℕ) (cells : List Cell) (q : ℕ) (old new : set.FinSet nat_cmp) : Type 0 where
  pub kept : (r : ℕ) → set.contains old r ≡ true → set.contains new r ≡ true
  pub only : (r : ℕ) → set.contains new r ≡ true → (set.contains old r ≡ true) ⊎ LeastOf s cells q r
  pub all : (r : ℕ) → LeastOf s cells q r → set.contains new r ≡ true

-- least has the least point of the string of each point in seen
abbrev pub KnowsLeast : ℕ → List Cell → set.FinSet nat_cmp → set.FinSet nat_cmp → Type 0
KnowsLeast s cells seen least = (q : ℕ) → set.contains seen q ≡ true → (r : ℕ) → LeastOf s cells q r
    → set.contains least r ≡ true
