-- The entries of a table: each is a row and its kind in one number.
use Rattle.std.specs.Prelude.{◌≡◌, ℕ, ◌+◌, ◌*◌, ◌/◌, ◌<◌, List, length, map, slice_index_or}
use Rattle.dfa_core.specs.declared.automaton.Seen.{Seen}
use Rattle.dfa_core.specs.declared.kind.RowKind.{RowKind}
use Rattle.dfa_core.specs.declared.kind.RowKind.TheVariants.{Plain, Accepting, Dead}
use Rattle.dfa_core.specs.Automata.{Row, step_at}
use Rattle.dfa_core.specs.RowKinds.{kind_at, HasKinds}
use Rattle.dfa_core.specs.Tables.{Flat}
use Rattle.dfa_core.specs.Words.{letter_number}

-- the number of a kind, which is odd if the row accepts something
abbrev pub kind_number : RowKind → ℕ
kind_number Plain = 0
kind_number Accepting = 1
kind_number Dead = 2

-- the entry of a row with this kind
abbrev pub entry_with : RowKind → ℕ → ℕ
entry_with kind row = 4 * row + kind_number kind

-- the row of an entry
abbrev pub row_of : ℕ → ℕ
row_of entry = entry / 4

-- the entry of a row, if kinds lists the kinds of all rows
abbrev pub entry_in : List RowKind → ℕ → ℕ
entry_in kinds row = entry_with (slice_index_or kinds row Plain) row

-- entries has the entry of the target of each row and letter, four for each row in the order of the letters
pub record AreEntries (rows : List Row) (entries : List ℕ) : Type 0 where
  pub many : length entries ≡ 4 * length rows
  pub each : (r : ℕ) (x : Seen) → r < length rows
      → slice_index_or entries (4 * r + letter_number x) 0
      ≡ entry_with (kind_at rows (step_at rows r x)) (step_at rows r x)

-- the lists of the table belong together, each row has its kind, and each entry is that of its target
pub record HasEntries (table : Flat) (entries : List ℕ) (kinds : List RowKind) : Type 0 where
  pub with_kinds : HasKinds table kinds
  pub each : entries ≡ map (entry_in kinds) table.targets
