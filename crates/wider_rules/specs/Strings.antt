-- What the steps of the search for further candidates find at one point.
use Rattle.std.specs.Prelude.{ℕ, ◌*◌, ◌&&◌, Bool, not, nat_lt, nat_le, List}
use Rattle.go_rules.specs.declared.Cell.{Cell}
use Rattle.go_rules.specs.Board.{are_neighbours}
use Rattle.go_rules.specs.Below.{any_below}
use Rattle.go_rules.specs.Strings.{cell_at, same_cell, is_in_string, is_liberty, liberties}
use Rattle.go_rules.specs.BesideStrings.{is_enemy, is_beside_string}

-- p is a neighbour of l on the board, and p holds this cell
unfoldable pub holds_next : ℕ → List Cell → Cell → ℕ → ℕ → Bool
holds_next s cells cell l p =
    (nat_lt p (s * s) && same_cell (cell_at cells p) cell) && are_neighbours s l p

-- the string of q has at least `least` and at most `most` liberties
abbrev pub has_between : ℕ → ℕ → ℕ → List Cell → ℕ → Bool
has_between least most s cells q = nat_le least (liberties s cells q) && nat_le (liberties s cells q) most

-- p is a liberty of the string of q, which has at least `least` and at most `most` liberties
unfoldable pub is_few_liberty : ℕ → ℕ → ℕ → List Cell → ℕ → ℕ → Bool
is_few_liberty least most s cells q p = has_between least most s cells q && is_liberty s cells q p

-- r is an enemy stone on the board next to the string of q, which has at least `least` and at most `most` liberties
unfoldable pub is_few_enemy : ℕ → ℕ → ℕ → List Cell → ℕ → ℕ → Bool
is_few_enemy least most s cells q r =
    has_between least most s cells q
    && (nat_lt r (s * s) && (is_beside_string s cells q r && is_enemy (cell_at cells q) (cell_at cells r)))

-- q is a stone of the target's colour next to a liberty of the target, and its string is another than the target's
unfoldable pub is_near_friend : ℕ → List Cell → ℕ → ℕ → Bool
is_near_friend s cells target q =
    (same_cell (cell_at cells q) (cell_at cells target)
    && any_below (s * s) (λ l. is_liberty s cells target l && are_neighbours s l q))
    && not (is_in_string s cells target q)
