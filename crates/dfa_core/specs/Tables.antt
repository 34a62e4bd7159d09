-- How four flat lists are seen as the rows of an automaton.
use Rattle.std.specs.Prelude.{◌≡◌, ℕ, zero, suc, ◌+◌, ◌-◌, ◌*◌, ◌<◌, ◌≤◌, List, [], ◌∷◌, ◌++◌, length, take, drop}
use Rattle.std.specs.Prelude.{slice_index_or}
use Rattle.std.specs.List.{flat_map}
use Rattle.dfa_core.specs.Automata.{Row}

-- an automaton as four flat lists: four targets for each row; the index at which the numbers of each row begin, and at
-- the end the index past all numbers; the numbers of all rows; and the depths
pub record Flat : Type 0 where
  pub targets : List ℕ
  pub starts : List ℕ
  pub numbers : List ℕ
  pub depths : List ℕ

-- the elements of the list whose index is at least `from` and below `to`
abbrev pub part_of : List ℕ → ℕ → ℕ → List ℕ
part_of xs from to = take (to - from) (drop from xs)

-- the index at which the numbers of row r begin
abbrev pub start_of : Flat → ℕ → ℕ
start_of table r = slice_index_or table.starts r 0

-- row r: its four targets, the numbers from its start up to the start of the next row, and its depth
abbrev pub row_in : Flat → ℕ → Row
row_in table r = record {
  targets = part_of table.targets (4 * r) (4 * r + 4);
  numbers = part_of table.numbers (start_of table r) (start_of table (r + 1));
  depth = slice_index_or table.depths r 0;
}

-- the first n rows
abbrev pub first_rows : Flat → ℕ → List Row
first_rows table zero = []
first_rows table (suc n) = first_rows table n ++ row_in table n ∷ []

-- all rows, one for each depth
unfoldable pub rows_in : Flat → List Row
rows_in table = first_rows table (length table.depths)

-- the flat lists belong together: there are four targets a row, and the numbers of the rows stand one after another,
-- from the first number to the last
pub record IsFlat (table : Flat) : Type 0 where
  pub targets : length table.targets ≡ 4 * length table.depths
  pub starts : length table.starts ≡ length table.depths + 1
  pub first : start_of table 0 ≡ 0
  pub last : start_of table (length table.depths) ≡ length table.numbers
  pub ordered : (r : ℕ) → r < length table.depths → start_of table r ≤ start_of table (r + 1)
  pub within : (r : ℕ) → r ≤ length table.depths → start_of table r ≤ length table.numbers

-- the numbers of all rows, one row after the other
abbrev pub numbers_of : List Row → List ℕ
numbers_of rows = flat_map (λ row. row.numbers) rows
