-- Enemies, and the points beside a string.
use Rattle.std.specs.Prelude.{ℕ, ◌*◌, ◌&&◌, Bool, true, false, List}
use Rattle.go_rules.specs.declared.Cell.{Cell}
use Rattle.go_rules.specs.declared.Cell.TheVariants.{Black, White}
use Rattle.go_rules.specs.Below.{any_below}
use Rattle.go_rules.specs.Board.{are_neighbours}
use Rattle.go_rules.specs.Strings.{is_in_string}

-- the two cells hold stones of different colours
abbrev pub is_enemy : Cell → Cell → Bool
is_enemy Black White = true
is_enemy White Black = true
is_enemy _ _ = false

-- q is a neighbour of a stone of the string of p
unfoldable pub is_beside_string : ℕ → List Cell → ℕ → ℕ → Bool
is_beside_string s cells p q = any_below (s * s) (λ x. is_in_string s cells p x && are_neighbours s x q)
