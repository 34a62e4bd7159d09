-- What stands next to a set of points.
use Rattle.std.specs.Prelude.{ℕ, ◌*◌, ◌&&◌, Bool, nat_lt, List}
use Rattle.go_rules.specs.declared.Cell.{Cell}
use Rattle.go_rules.specs.Below.{any_below}
use Rattle.go_rules.specs.Board.{are_neighbours}
use Rattle.go_rules.specs.Strings.{cell_at, same_cell}

-- p is a point of the board that holds this cell, and it is next to a point of S
unfoldable pub stands_beside : ℕ → List Cell → Cell → (ℕ → Bool) → ℕ → Bool
stands_beside s cells cell S p =
    nat_lt p (s * s) && same_cell (cell_at cells p) cell && any_below (s * s) (λ l. S l && are_neighbours s l p)
