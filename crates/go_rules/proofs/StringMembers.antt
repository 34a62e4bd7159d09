-- What is of a string: its own stone, and a stone in both directions.
use Rattle.std.proofs.Common.{◌≡◌, ℕ, ◌*◌, ◌<◌, true, List, ap, ◌∙◌}
use Rattle.go_rules.specs.declared.Cell.{Cell}
use Rattle.go_rules.specs.Strings.{cell_at, is_stone, is_in_string, start}
use Rattle.go_rules.proofs.Paths.{path_on_board, IsInString-from_test, is_is_in_string-from_fact}
use Rattle.go_rules.proofs.Links.{path_same, path_back}

-- the stones of a string are on the board
pub is_in_string_on : (s : ℕ) (cells : List Cell) (p q : ℕ) → p < s * s → is_in_string s cells p q ≡ true → q < s * s
is_in_string_on s cells p q on h = path_on_board s cells p on (IsInString-from_test s cells p q h).path

-- if q is of the string of p, p is of the string of q
pub string_back : (s : ℕ) (cells : List Cell) (p q : ℕ) → p < s * s → is_in_string s cells p q ≡ true
    → is_in_string s cells q p ≡ true
string_back s cells p q on h =
    let a = IsInString-from_test s cells p q h in
    is_is_in_string-from_fact s cells q p (path_on_board s cells p on a.path)
    (record { stone = ap is_stone (path_same s cells p a.path) ∙ a.stone; path = path_back s cells p on a.path })

-- a stone is of its own string
pub string_self : (s : ℕ) (cells : List Cell) (p : ℕ) → p < s * s → is_stone (cell_at cells p) ≡ true
    → is_in_string s cells p p ≡ true
string_self s cells p on h = is_is_in_string-from_fact s cells p p on (record { stone = h; path = start })
