-- Boards: their sizes, their points and which points are neighbours. A board of size s has s rows and s columns; its
-- points are the numbers below s * s, and point row * s + column stands in that row from the top and that column from
-- the left.
use Rattle.std.specs.Prelude.{◌≡◌, ℕ, ◌+◌, ◌*◌, ◌/◌, ◌%◌, ◌==◌, ◌<◌, ◌≤◌, ◌&&◌, ◌||◌, Bool, ◌⊎◌}

-- the least number of rows that a board may have
abbrev pub smallest_size : ℕ
smallest_size = 2

-- the greatest number of rows that a board may have
abbrev pub largest_size : ℕ
largest_size = 25

-- how many points the largest board has
abbrev pub largest_points : ℕ
largest_points = largest_size * largest_size

-- s is the size of a board
pub record IsSize (s : ℕ) : Type 0 where
  pub at_least : smallest_size ≤ s
  pub at_most : s ≤ largest_size

-- a row and a column, both counted from 0
abbrev pub Place : Type 0
Place = ℕ × ℕ

-- the place stands on a board of size s
abbrev pub IsOnBoard : ℕ → Place → Type 0
IsOnBoard s place = (place.0 < s) × (place.1 < s)

-- the point of a place
abbrev pub point_at : ℕ → Place → ℕ
point_at s place = place.0 * s + place.1

-- the row of a point, counted from the top
abbrev pub row_of : ℕ → ℕ → ℕ
row_of s p = p / s

-- the column of a point, counted from the left
abbrev pub column_of : ℕ → ℕ → ℕ
column_of s p = p % s

-- the place of a point
abbrev pub place_of : ℕ → ℕ → Place
place_of s p = (row_of s p, column_of s p)

-- the numbers a and b differ by one
abbrev pub are_one_apart : ℕ → ℕ → Bool
are_one_apart a b = (a == b + 1) || (b == a + 1)

-- p and q, which are points of the board, are neighbours: their rows are the same and their columns differ by one, or
-- their columns are the same and their rows differ by one
unfoldable pub are_neighbours : ℕ → ℕ → ℕ → Bool
are_neighbours s p q =
    ((row_of s p == row_of s q) && are_one_apart (column_of s p) (column_of s q))
    || ((column_of s p == column_of s q) && are_one_apart (row_of s p) (row_of s q))

-- one of the numbers a and b comes right after the other
abbrev pub AreConsecutive : ℕ → ℕ → Type 0
AreConsecutive a b = (a ≡ b + 1) ⊎ (b ≡ a + 1)

-- the places a and b are neighbours on a board of size s: both stand on it, and their rows are the same and their
-- columns differ by one, or their columns are the same and their rows differ by one
pub record AreNeighbours (s : ℕ) (a b : Place) : Type 0 where
  pub first_on_board : IsOnBoard s a
  pub second_on_board : IsOnBoard s b
  pub one_step : ((a.0 ≡ b.0) × AreConsecutive a.1 b.1) ⊎ ((a.1 ≡ b.1) × AreConsecutive a.0 b.0)
