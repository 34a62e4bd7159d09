-- Where the places around an anchor stand on the padded board.
use Rattle.std.specs.Prelude.{◌≡◌, ℕ, suc, ◌+◌, ◌-◌, ◌*◌, ◌/◌, ◌%◌, ◌<◌, ◌≤◌, ℤ, pos, negsuc, List, length}
use Rattle.std.specs.Prelude.{slice_index_or}
use Rattle.go_rules.specs.Board.{largest_size}
use Rattle.go_rules.specs.Transform.{Offset, largest_offset, transformations, transformed}
use Rattle.spiral.specs.Spiral.{offset_count, offset_at}
use Rattle.dfa_match.specs.SeenLetters.{padded_side}
use Rattle.dfa_match.specs.declared.cursor.Cursor.{Cursor}

-- the index at which the square of all offsets around the point m of a board of size s begins
abbrev pub corner_at : ℕ → ℕ → ℕ
corner_at s m = m / s * padded_side + m % s

-- the point of a board of size s around which the square of all offsets begins at the index corner
unfoldable pub anchor_at_corner : ℕ → ℕ → ℕ
anchor_at_corner s corner = corner / padded_side * s + corner % padded_side

-- the cursor at the point m of a board of size s: its column, and the index at which the square around it begins
abbrev pub cursor_at : ℕ → ℕ → Cursor
cursor_at s m = record { column = m % s; corner = corner_at s m }

-- the row or the column of the square of all offsets that one part of an offset leads to
abbrev pub strip_by : ℤ → ℕ
strip_by (pos n) = largest_offset + n
strip_by (negsuc n) = largest_offset - suc n

-- the step from the beginning of the square of all offsets to the place of the offset d
abbrev pub step_by : Offset → ℕ
step_by d = strip_by d.0 * padded_side + strip_by d.1

-- the index at which the square around the last point of the largest board begins
abbrev pub last_corner : ℕ
last_corner = (largest_size - 1) * padded_side + (largest_size - 1)

-- the step from the beginning of a square to its last place
abbrev pub last_step : ℕ
last_step = 2 * largest_offset * padded_side + 2 * largest_offset

-- the step from the beginning of a square to the point in its middle
abbrev pub no_step : ℕ
no_step = step_by (pos 0, pos 0)

-- how many steps a transformation has: one for each offset, and as many more as a walk may go past the last offset
-- before it is dropped
abbrev pub step_count : ℕ
step_count = offset_count + 1024

-- the list has, by the indices of the spiral, the steps to the places of the offsets when they are moved by t; past the
-- last offset each step leads to some place of the square
pub record AreSteps (t : ℕ) (steps : List ℕ) : Type 0 where
  pub all : length steps ≡ step_count
  pub each : (i : ℕ) → i < offset_count → slice_index_or steps i 0 ≡ step_by (transformed t (offset_at i))
  pub past : (i : ℕ) → i < step_count → slice_index_or steps i 0 ≤ last_step

-- the list has the steps of each transformation, one transformation after the other
pub record AreAllSteps (steps : List ℕ) : Type 0 where
  pub all : length steps ≡ transformations * step_count
  pub each : (t i : ℕ) → t < transformations → i < offset_count
      → slice_index_or steps (t * step_count + i) 0 ≡ step_by (transformed t (offset_at i))
  pub past : (k : ℕ) → k < transformations * step_count → slice_index_or steps k 0 ≤ last_step

-- after the old list stand n steps: those of the offsets, moved by t, and past the last offset steps to some place of
-- the square
pub record AreStepsBehind (t n : ℕ) (old steps : List ℕ) : Type 0 where
  pub all : length steps ≡ length old + n
  pub before : (k : ℕ) → k < length old → slice_index_or steps k 0 ≡ slice_index_or old k 0
  pub each : (i : ℕ) → i < n → i < offset_count
      → slice_index_or steps (length old + i) 0 ≡ step_by (transformed t (offset_at i))
  pub past : (i : ℕ) → i < n → slice_index_or steps (length old + i) 0 ≤ last_step
