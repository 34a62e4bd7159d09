-- Strings and their liberties, on a list of the s * s cells of a board: once by paths, and once as tests that compute.
-- The law `strings_are_by_paths` says that the two are the same.
use Rattle.std.specs.Prelude.{◌≡◌, ℕ, zero, suc, ◌*◌, ◌<◌, ◌==◌, ◌&&◌, ◌||◌, Bool, true, false, nat_lt, List}
use Rattle.std.specs.Prelude.{slice_index_or}
use Rattle.std.specs.Ordering.{nat_cmp}
use Rattle.std.specs.FinSet as set
use Rattle.go_rules.specs.declared.Cell.{Cell}
use Rattle.go_rules.specs.declared.Cell.TheVariants.{Empty, Black, White}
use Rattle.go_rules.specs.Below.{any_below, count_below, set_below}
use Rattle.go_rules.specs.Board.{are_neighbours}

-- the two cells are the same
abbrev pub same_cell : Cell → Cell → Bool
same_cell Empty Empty = true
same_cell Black Black = true
same_cell White White = true
same_cell _ _ = false

-- the cell holds a stone
abbrev pub is_stone : Cell → Bool
is_stone Empty = false
is_stone _ = true

-- what stands at p; Empty past the last cell of the list
abbrev pub cell_at : List Cell → ℕ → Cell
cell_at cells p = slice_index_or cells p Empty

-- a path from p to q: each point is a neighbour of the one before, and each holds what p holds
pub data Path (s : ℕ) (cells : List Cell) (p : ℕ) : ℕ → Type 0 where
  start : Path s cells p p
  step : {q r : ℕ} → Path s cells p q → r < s * s → are_neighbours s q r ≡ true → cell_at cells r ≡ cell_at cells p
      → Path s cells p r

-- q is a stone of the string of p: p holds a stone, and a path leads from p to q
pub record IsInString (s : ℕ) (cells : List Cell) (p q : ℕ) : Type 0 where
  pub stone : is_stone (cell_at cells p) ≡ true
  pub path : Path s cells p q

-- l is a liberty of the string of p: an empty neighbour of one of its stones
pub record IsLiberty (s : ℕ) (cells : List Cell) (p l : ℕ) : Type 0 where
  pub on_board : l < s * s
  pub is_empty : cell_at cells l ≡ Empty
  pub beside : (q : ℕ) × IsInString s cells p q × (are_neighbours s q l ≡ true)

-- a path of at most n steps leads from p to q
unfoldable pub reached : ℕ → List Cell → ℕ → ℕ → ℕ → Bool
reached s cells p zero q = q == p
reached s cells p (suc n) q =
    reached s cells p n q
    || (nat_lt q (s * s) && same_cell (cell_at cells q) (cell_at cells p)
    && any_below (s * s) (λ r. reached s cells p n r && are_neighbours s r q))

-- q is a stone of the string of p, by a path of at most s * s steps
unfoldable pub is_in_string : ℕ → List Cell → ℕ → ℕ → Bool
is_in_string s cells p q = is_stone (cell_at cells p) && reached s cells p (s * s) q

-- l is an empty neighbour of a stone of the string of p
unfoldable pub is_liberty : ℕ → List Cell → ℕ → ℕ → Bool
is_liberty s cells p l =
    nat_lt l (s * s) && same_cell (cell_at cells l) Empty
    && any_below (s * s) (λ q. is_in_string s cells p q && are_neighbours s q l)

-- how many liberties the string of p has; 0 if p is empty
unfoldable pub liberties : ℕ → List Cell → ℕ → ℕ
liberties s cells p = count_below (s * s) (is_liberty s cells p)

-- the stones of the string of p; none if p is empty
unfoldable pub string_at : ℕ → List Cell → ℕ → set.FinSet nat_cmp
string_at s cells p = set_below (s * s) (is_in_string s cells p)

-- the liberties of the string of p
unfoldable pub liberty_points : ℕ → List Cell → ℕ → set.FinSet nat_cmp
liberty_points s cells p = set_below (s * s) (is_liberty s cells p)
