-- Strings without a liberty.
use Rattle.std.specs.Prelude.{ℕ, ◌*◌, ◌==◌, ◌&&◌, Bool, List, Option, Some, None, if◌then◌else◌}
use Rattle.std.specs.Ordering.{nat_cmp}
use Rattle.std.specs.FinSet as set
use Rattle.go_rules.specs.declared.Cell.{Cell}
use Rattle.go_rules.specs.declared.Cell.TheVariants.{Empty}
use Rattle.go_rules.specs.Board.{are_neighbours}
use Rattle.go_rules.specs.Below.{any_below}
use Rattle.go_rules.specs.Strings.{cell_at, is_stone, same_cell, string_at, liberties}

-- some neighbour of q is empty
abbrev pub has_empty_neighbour : ℕ → List Cell → ℕ → Bool
has_empty_neighbour s cells q = any_below (s * s) (λ r. are_neighbours s q r && same_cell (cell_at cells r) Empty)

-- the stones of the string of p, if p holds a stone and its string has no liberty; else None
unfoldable pub stones_without_liberty : ℕ → List Cell → ℕ → Option (set.FinSet nat_cmp)
stones_without_liberty s cells p =
    if is_stone (cell_at cells p) && (liberties s cells p == 0) then Some (string_at s cells p) else None
