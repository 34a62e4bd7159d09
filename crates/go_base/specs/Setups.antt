-- Positions that are set up from their stones.
use Rattle.std.specs.Prelude.{◌≡◌, ◌≢◌, ℕ, ◌*◌, ◌<◌, Bool, true, false, ◌&&◌, ◌==◌, List, map, Option, Some, None}
use Rattle.std.specs.Prelude.{if◌then◌else◌}
use Rattle.std.specs.List.{range_with_len}
use Rattle.std.specs.Ordering.{nat_cmp}
use Rattle.std.specs.FinSet as set
use Rattle.go_rules.specs.declared.Cell.{Cell}
use Rattle.go_rules.specs.declared.Cell.TheVariants.{Empty, Black, White}
use Rattle.go_rules.specs.Below.{any_below}
use Rattle.go_rules.specs.Strings.{cell_at, is_stone, liberties, IsLiberty}
use Rattle.go_rules.specs.Position.{BoardState, board_of}

-- a stone stands at p, and its string has no liberty
abbrev pub is_dead_at : ℕ → List Cell → ℕ → Bool
is_dead_at s cells p = is_stone (cell_at cells p) && liberties s cells p == 0

-- some string has no liberty
unfoldable pub has_dead_string : ℕ → List Cell → Bool
has_dead_string s cells = any_below (s * s) (is_dead_at s cells)

-- what stands at p, given the sets of the points of the black stones and of the white stones
abbrev pub cell_among : set.FinSet nat_cmp → set.FinSet nat_cmp → ℕ → Cell
cell_among black white p =
    if set.contains black p then Black else if set.contains white p then White else Empty

-- the cells of a board of size s with these stones
unfoldable pub cells_with : ℕ → set.FinSet nat_cmp → set.FinSet nat_cmp → List Cell
cells_with s black white = map (cell_among black white) (range_with_len 0 (s * s))

-- some point of a board of size s is in both sets
unfoldable pub have_common_point : ℕ → set.FinSet nat_cmp → set.FinSet nat_cmp → Bool
have_common_point s black white = any_below (s * s) (λ p. set.contains black p && set.contains white p)

-- the position with these stones and no ban: None exactly if a point is in both sets or some string has no liberty
unfoldable pub setup_of : ℕ → set.FinSet nat_cmp → set.FinSet nat_cmp → Option BoardState
setup_of s black white =
    if have_common_point s black white then None
    else if has_dead_string s (cells_with s black white) then None
    else Some (board_of s (cells_with s black white))

-- no point of the set holds a stone whose string has no liberty
abbrev pub AreAlive : ℕ → List Cell → set.FinSet nat_cmp → Type 0
AreAlive s cells points = (p : ℕ) → set.contains points p ≡ true → is_dead_at s cells p ≡ false

-- the stones cannot be set up on a board of size s: a point has stones of both colours, or the string of a stone has no
-- liberty
pub data CannotBeSetUp (s : ℕ) (black white : set.FinSet nat_cmp) : Type 0 where
  both : (p : ℕ) → p < s * s → set.contains black p ≡ true → set.contains white p ≡ true → CannotBeSetUp s black white
  dead : (p : ℕ) → p < s * s → cell_among black white p ≢ Empty
      → ((l : ℕ) → IsLiberty s (cells_with s black white) p l → ⊥) → CannotBeSetUp s black white
