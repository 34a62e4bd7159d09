-- The generated protocol lines: two lines that set up the board, and then as many lines as were asked for. A recurrence
-- of numbers chooses the vertex of each line, and the place of the line in its round of sixteen chooses the command.
use Rattle.std.specs.Prelude.{ℕ, ◌+◌, ◌*◌, ◌/◌, ◌%◌, ◌^◌, ◌==◌, zero, suc, List, [], ◌∷◌, ◌++◌, if◌then◌else◌, codes}
use Rattle.std.specs.List.{flat_map}
use Rattle.vertices.specs.Vertices.{vertex_text}

-- how many rows the board has on which the generated lines play
abbrev pub rows : ℕ
rows = 9

-- the number after the number x in the recurrence
abbrev pub next_number : ℕ → ℕ
next_number x = (x * 1103515245 + 12345) % 2 ^ 31

-- the number of line i; the recurrence begins with n, the count of the lines
unfoldable pub number_of_line : ℕ → ℕ → ℕ
number_of_line n zero = n
number_of_line n (suc i) = next_number (number_of_line n i)

-- the point that a number chooses
abbrev pub point_of_number : ℕ → ℕ
point_of_number x = x / 65536 % (rows * rows)

-- the colour of line i: black if i is odd, else white
abbrev pub colour_of_line : ℕ → List ℕ
colour_of_line i = if i % 2 == 1 then codes "b" else codes "w"

-- line i with the number x; its place in the round of sixteen lines chooses the command
unfoldable pub line_with : ℕ → ℕ → List ℕ
line_with i x =
    if i % 16 == 4 then codes "undo"
    else (if i % 16 == 8 then codes "attack " ++ vertex_text rows (point_of_number x)
    else (if i % 16 == 12 then codes "defend " ++ vertex_text rows (point_of_number x)
    else (if i % 16 == 0 then codes "match_patterns " ++ colour_of_line i
    else codes "play " ++ colour_of_line i ++ codes " " ++ vertex_text rows (point_of_number x))))

-- line i of n generated lines, counted from 1
abbrev pub line_at : ℕ → ℕ → List ℕ
line_at n i = line_with i (number_of_line n i)

-- the k lines after line i, if n lines are generated
unfoldable pub lines_after : ℕ → ℕ → ℕ → List (List ℕ)
lines_after n i zero = []
lines_after n i (suc k) = line_at n (i + 1) ∷ lines_after n (i + 1) k

-- the lines that set up the board
abbrev pub opening_lines : List (List ℕ)
opening_lines = codes "boardsize 9" ∷ codes "depths 5 1" ∷ []

-- all lines: the lines that set up the board, and then n generated lines
abbrev pub generated_lines : ℕ → List (List ℕ)
generated_lines n = opening_lines ++ lines_after n 0 n

-- a line with its line feed
abbrev pub ended : List ℕ → List ℕ
ended line = line ++ codes "\n"

-- the bytes of lines, each with its line feed
abbrev pub text_of : List (List ℕ) → List ℕ
text_of lines = flat_map ended lines

-- the bytes of all lines, if n lines are generated
abbrev pub generated_text : ℕ → List ℕ
generated_text n = text_of (generated_lines n)
