-- Shortcuts: the row after a letter and after the letters that are passed over.
use Rattle.std.specs.Prelude.{◌≡◌, ℕ, ◌+◌, ◌*◌, ◌%◌, ◌<◌, ◌≤◌, Bool, not, ◌&&◌, ◌==◌, List, [], length}
use Rattle.std.specs.Prelude.{slice_index_or, All}
use Rattle.dfa_core.specs.declared.automaton.Seen.{Seen}
use Rattle.dfa_core.specs.declared.kind.RowKind.TheVariants.{Accepting, Dead}
use Rattle.dfa_core.specs.Automata.{Row, row_at, step_at, reach_from}
use Rattle.dfa_core.specs.Entries.{kind_number, entry_with, row_of}
use Rattle.dfa_core.specs.RowKinds.{kind_at}
use Rattle.dfa_core.specs.Words.{Word, letter_number}

-- whether the entry is that of a row that accepts something
abbrev pub is_accepting_entry : ℕ → Bool
is_accepting_entry entry = entry % 4 == kind_number Accepting

-- whether the entry is that of a dead row
abbrev pub is_dead_entry : ℕ → Bool
is_dead_entry entry = entry % 4 == kind_number Dead

-- whether the four entries of row r are the same
abbrev pub has_one_target : List ℕ → ℕ → Bool
has_one_target entries r = (slice_index_or entries (4 * r + 1) 0 == slice_index_or entries (4 * r) 0) &&
    (slice_index_or entries (4 * r + 2) 0 == slice_index_or entries (4 * r) 0) &&
    (slice_index_or entries (4 * r + 3) 0 == slice_index_or entries (4 * r) 0)

-- whether the row of the entry is passed over: it accepts nothing, it is not dead, and its four entries are the same
abbrev pub is_passed : List ℕ → ℕ → Bool
is_passed entries entry = not (is_accepting_entry entry) && not (is_dead_entry entry)
    && has_one_target entries (row_of entry)

-- the entry is that of one of the rows, with its kind
pub record IsEntryOfRow (rows : List Row) (entry : ℕ) : Type 0 where
  pub row : row_of entry < length rows
  pub kind : entry ≡ entry_with (kind_at rows (row_of entry)) (row_of entry)

-- the four entries of the row of this entry lie in the list
abbrev pub IsOfRow : List ℕ → ℕ → Type 0
IsOfRow entries entry = 4 * row_of entry + 4 ≤ length entries

-- the four entries of the row of each entry lie in the list
abbrev pub HaveRows : List ℕ → Type 0
HaveRows entries = All (IsOfRow entries) entries

-- each word of many letters leads from row r to the row of the entry, and before its last letter nothing is accepted
pub record LeadsOn (rows : List Row) (r many entry : ℕ) : Type 0 where
  pub to : (w : Word) → length w ≡ many → entry ≡ entry_with (kind_at rows (reach_from rows r w)) (reach_from rows r w)
  pub silent : (w : Word) → length w < many → (row_at rows (reach_from rows r w)).numbers ≡ []

-- for each row and letter, the entry is that of the row after this letter and as many more as passed counts there
pub record AreShortcuts (rows : List Row) (entries passed : List ℕ) : Type 0 where
  pub many : length entries ≡ 4 * length rows
  pub counted : length passed ≡ 4 * length rows
  pub each : (r : ℕ) (x : Seen) → r < length rows
      → LeadsOn rows (step_at rows r x) (slice_index_or passed (4 * r + letter_number x) 0)
      (slice_index_or entries (4 * r + letter_number x) 0)
