-- Diagrams: rectangles of letters in reading order with exactly one star. With their edges they lie within the largest
-- board.
use Rattle.std.specs.Prelude.{◌≡◌, ℕ, ◌+◌, ◌*◌, ◌<◌, ◌≤◌, Bool, true, false, List, length, slice_index_or, ◌==◌}
use Rattle.go_rules.specs.Board.{largest_size}
use Rattle.pat_types.specs.declared.letter.Letter.{Letter}
use Rattle.pat_types.specs.declared.letter.Letter.TheVariants.{Friend, Enemy, Empty, FriendOrEmpty, EnemyOrEmpty, Any}
use Rattle.pat_types.specs.declared.letter.Letter.TheVariants.{Star}

-- the letter is `*`
abbrev pub is_star : Letter → Bool
is_star Star = true
is_star Friend = false
is_star Enemy = false
is_star Empty = false
is_star FriendOrEmpty = false
is_star EnemyOrEmpty = false
is_star Any = false

-- how many rows or columns an edge takes: 1 if it is drawn, else 0
abbrev pub drawn_strip : Bool → ℕ
drawn_strip true = 1
drawn_strip false = 0

-- the letters are a whole rectangle with one star, at the place `star`, and lie with the edges within the largest board
pub record IsDiagram (rows columns : ℕ) (letters : List Letter) (top bottom left right : Bool)
    (star : ℕ × ℕ) : Type 0 where
  pub rows_from : 1 ≤ rows
  pub columns_from : 1 ≤ columns
  pub rows_to : drawn_strip top + rows + drawn_strip bottom ≤ largest_size
  pub columns_to : drawn_strip left + columns + drawn_strip right ≤ largest_size
  pub size : length letters ≡ rows * columns
  pub star_row : star.0 < rows
  pub star_column : star.1 < columns
  pub one_star : (i : ℕ) → i < rows * columns
      → is_star (slice_index_or letters i Friend) ≡ (i == star.0 * columns + star.1)
