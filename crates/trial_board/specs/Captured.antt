-- The points of the stones that trial moves took, kept one after another in one row for all moves.
use Rattle.std.specs.Prelude.{ℕ, zero, suc, ◌+◌, ◌*◌, List, slice_index_or}
use Rattle.std.specs.Ordering.{nat_cmp}
use Rattle.std.specs.FinSet as set
use Rattle.go_rules.specs.declared.Cell.{Cell}
use Rattle.go_rules.specs.Below.{count_below}
use Rattle.go_rules.specs.Strings.{cell_at, is_stone}

-- how many stones can be taken: the stones of a full board of the largest size, and one for each trial move
abbrev pub most_captured : ℕ
most_captured = 825

-- the n points in the row from the place `first` on
abbrev pub points_in : List ℕ → ℕ → ℕ → set.FinSet nat_cmp
points_in row first zero = set.empty
points_in row first (suc n) = set.insert (points_in row first n) (slice_index_or row (first + n) 0)

-- how many stones stand on a board of s rows
abbrev pub stones_on : ℕ → List Cell → ℕ
stones_on s cells = count_below (s * s) (λ q. is_stone (cell_at cells q))
