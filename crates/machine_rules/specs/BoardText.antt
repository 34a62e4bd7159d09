-- The board as a text, as GTP shows it: row numbers at the left and column letters below.
use Rattle.std.specs.Prelude.{ℕ, ◌-◌, nat_le, List, [], ◌∷◌, ◌++◌, slice_index, if◌then◌else◌, codes, decimal}
use Rattle.std.specs.List.{flat_map, range_with_len}
use Rattle.go_rules.specs.declared.Cell.{Cell}
use Rattle.go_rules.specs.declared.Cell.TheVariants.{Empty, Black, White}
use Rattle.go_rules.specs.Board.{point_at}
use Rattle.go_rules.specs.Strings.{cell_at}
use Rattle.go_rules.specs.Position.{BoardState}
use Rattle.gtp_cmd.specs.Vertices.{column_letters}

-- how a cell is shown
abbrev pub mark_of : Cell → List ℕ
mark_of Empty = codes "."
mark_of Black = codes "X"
mark_of White = codes "O"

-- the number of a row, right-aligned in two characters
abbrev pub row_number_text : ℕ → List ℕ
row_number_text n = (if nat_le 10 n then [] else codes " ") ++ decimal n

-- the mark of a point of a row, after a blank
abbrev pub cell_text : ℕ → List Cell → ℕ → ℕ → List ℕ
cell_text s cells row column = codes " " ++ mark_of (cell_at cells (point_at s (row, column)))

-- a row from the top, with its number and its line feed
abbrev pub row_text : ℕ → List Cell → ℕ → List ℕ
row_text s cells row = row_number_text (s - row) ++ flat_map (cell_text s cells row) (range_with_len 0 s) ++ codes "\n"

-- a column's letter, after a blank
abbrev pub letter_text : ℕ → List ℕ
letter_text column = codes " " ++ slice_index column_letters column ∷ []

-- the board: a line feed, the rows from the top, and the letters of the columns
abbrev pub board_text : BoardState → List ℕ
board_text pos =
    codes "\n" ++ flat_map (row_text pos.size pos.cells) (range_with_len 0 pos.size)
    ++ codes "  " ++ flat_map letter_text (range_with_len 0 pos.size)
