-- Vertices, as the GTP version 2 draft writes the points of a board: a column letter without I, and the row's number
-- from below.
use Rattle.std.specs.Prelude.{ℕ, ◌-◌, ◌==◌, ◌&&◌, nat_lt, nat_le, List, [], ◌∷◌, length, slice_index, Option, None}
use Rattle.std.specs.Prelude.{Some, if◌then◌else◌, codes, decimal, position}
use Rattle.std.specs.Char.{to_ascii_uppercase}
use Rattle.std.specs.Option.{option_map}
use Rattle.std.specs.Str.{bytes_eq, str_to_ascii_lowercase}
use Rattle.go_rules.specs.Board.{point_at, row_of, column_of}
use Rattle.vertices.specs.Words.{number_of}

-- the letters of the columns from the left
abbrev pub column_letters : List ℕ
column_letters = codes "ABCDEFGHJKLMNOPQRSTUVWXYZ"

-- the column that a letter names in either case, counted from 0; None if it names no column
abbrev pub column_named : ℕ → Option ℕ
column_named letter = position (λ l. l == to_ascii_uppercase letter) column_letters

-- the number of a row that one or two digits write; None for any other text
abbrev pub row_number_of : List ℕ → Option ℕ
row_number_of digits = if nat_le (length digits) 2 then number_of digits else None

-- the point in this column and in the row of this number, if both lie on a board of size s; row 1 is the bottom row
abbrev pub point_of : ℕ → Option ℕ → Option ℕ → Option ℕ
point_of s (Some column) (Some number) =
    if nat_lt column s && (nat_le 1 number && nat_le number s) then Some (point_at s (s - number, column)) else None
point_of s _ _ = None

-- the point of a board of size s that a word names, if it is a vertex of this board
abbrev pub vertex_of : ℕ → List ℕ → Option ℕ
vertex_of s [] = None
vertex_of s (letter ∷ digits) = point_of s (column_named letter) (row_number_of digits)

-- where a move on a board of size s goes by the word: `pass` in either case is no point, a vertex is its point, and any
-- other word is None
abbrev pub target_of : ℕ → List ℕ → Option (Option ℕ)
target_of s word = if bytes_eq (str_to_ascii_lowercase word) (codes "pass") then Some None
    else option_map Some (vertex_of s word)

-- the vertex of point p of a board of size s, as it is printed
abbrev pub vertex_text : ℕ → ℕ → List ℕ
vertex_text s p = slice_index column_letters (column_of s p) ∷ decimal (s - row_of s p)
