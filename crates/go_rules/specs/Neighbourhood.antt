-- The neighbourhood of a set of points: its points on the board, the whole strings of their stones, and the neighbours
-- of all of these. Clauses say with neighbourhoods which points a look at a position may ask for.
use Rattle.std.specs.Prelude.{◌≡◌, ℕ, ◌*◌, ◌<◌, ◌&&◌, ◌||◌, Bool, true, nat_lt, List}
use Rattle.go_rules.specs.declared.Cell.{Cell}
use Rattle.go_rules.specs.Below.{any_below}
use Rattle.go_rules.specs.Board.{are_neighbours}
use Rattle.go_rules.specs.Strings.{is_in_string, IsInString}

-- q is a point of the board, and in S or in the string of a point of S
unfoldable pub whole_strings_of : ℕ → List Cell → (ℕ → Bool) → ℕ → Bool
whole_strings_of s cells S q = nat_lt q (s * s) && (S q || any_below (s * s) (λ x. S x && is_in_string s cells x q))

-- q is a point of the board that is in the whole strings of S, or is a neighbour of a point in them
unfoldable pub neighbourhood_of : ℕ → List Cell → (ℕ → Bool) → ℕ → Bool
neighbourhood_of s cells S q =
    nat_lt q (s * s)
    && (whole_strings_of s cells S q || any_below (s * s) (λ y. whole_strings_of s cells S y && are_neighbours s y q))

-- in words: q is in S, or in the string of a point of S
pub data InWholeStrings (s : ℕ) (cells : List Cell) (S : ℕ → Bool) (q : ℕ) : Type 0 where
  member : q < s * s → S q ≡ true → InWholeStrings s cells S q
  of_string : (x : ℕ) → x < s * s → S x ≡ true → IsInString s cells x q → InWholeStrings s cells S q

-- in words: q is in the whole strings of S, or is a neighbour of a point in them
pub data InNeighbourhood (s : ℕ) (cells : List Cell) (S : ℕ → Bool) (q : ℕ) : Type 0 where
  inside : InWholeStrings s cells S q → InNeighbourhood s cells S q
  next_to : (y : ℕ) → q < s * s → InWholeStrings s cells S y → are_neighbours s y q ≡ true → InNeighbourhood s cells S q
