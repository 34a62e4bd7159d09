-- Notes of the cell and the name that a point had before a change.
use Rattle.std.specs.Prelude.{◌≡◌, ℕ, List, [], ◌∷◌, ◌++◌, slice_set}
use Rattle.go_rules.specs.declared.Cell.{Cell}
use Rattle.go_strings.specs.declared.notes.Note.{Note}

-- the cells before the notes were made, from the cells afterwards: each noted point has the cell of its first note
abbrev pub cells_before : List Note → List Cell → List Cell
cells_before [] cells = cells
cells_before (n ∷ ns) cells = slice_set (cells_before ns cells) n.at n.cell

-- the names before the notes were made, from the names afterwards: each noted point has the name of its first note
abbrev pub names_before : List Note → List ℕ → List ℕ
names_before [] names = names
names_before (n ∷ ns) names = slice_set (names_before ns names) n.at n.name

-- the notes that came lead from the changed cells and names back to the old ones
pub record IsNoted (cells changed : List Cell) (names renamed : List ℕ) (notes longer : List Note) : Type 0 where
  pub more : List Note
  pub notes_are : longer ≡ notes ++ more
  pub cells_are : cells_before more changed ≡ cells
  pub names_are : names_before more renamed ≡ names
