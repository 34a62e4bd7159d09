-- The main diagram: its lines are edge lines and rows. Here a diagram is the list of the words of its lines so far.
use Rattle.std.specs.Prelude.{ℕ, ◌-◌, Bool, false, ◌&&◌, ◌||◌, not, ◌==◌, nat_lt, nat_le, List, [], ◌∷◌, count_by}
use Rattle.std.specs.Prelude.{length, take, drop, filter, slice_index, Option, Some, None, is_some, if◌then◌else◌}
use Rattle.std.specs.List.{list_all, flat_map, filter_map}
use Rattle.std.specs.Bool.{beq}
use Rattle.pat_types.specs.declared.letter.Letter.{Letter}
use Rattle.pat_types.specs.declared.letter.Letter.TheVariants.{Friend, Enemy, Empty, FriendOrEmpty, EnemyOrEmpty, Any}
use Rattle.pat_types.specs.declared.letter.Letter.TheVariants.{Star}
use Rattle.go_rules.specs.Board.{largest_size}
use Rattle.pat_types.specs.Diagrams.{drawn_strip, is_star}
use Rattle.db_rules.specs.declared.shape.Shape.{Shape}
use Rattle.db_rules.specs.declared.kind.FaultKind.{FaultKind}
use Rattle.db_rules.specs.declared.kind.FaultKind.TheVariants.{BadLetter, EdgePlace, Ragged, TooLarge}
use Rattle.db_rules.specs.Kinds.{first_of}

-- the letter that this byte stands for: `O X . o x ? *`
abbrev pub letter_of : ℕ → Option Letter
letter_of b =
    if b == 79 then Some Friend else if b == 88 then Some Enemy else if b == 46 then Some Empty else if b == 111 then
    Some FriendOrEmpty else if b == 120 then Some EnemyOrEmpty else if b == 63 then Some Any else if b == 42 then Some
    Star else None

-- the byte is one of the seven letters
abbrev pub is_letter : ℕ → Bool
is_letter b = is_some (letter_of b)

-- the byte is `-`
abbrev pub is_dash : ℕ → Bool
is_dash b = b == 45

-- the byte `+`, which ends an edge line on a side that has an edge
abbrev pub plus : ℕ
plus = 43

-- the byte `|`, which ends a row on a side that has an edge
abbrev pub bar : ℕ
bar = 124

-- the word begins with this byte
abbrev pub begins : ℕ → List ℕ → Bool
begins b word = slice_index word 0 == b

-- the word without this byte at its front, if it begins with it
abbrev pub without_left : ℕ → List ℕ → List ℕ
without_left b word = drop (drawn_strip (begins b word)) word

-- the word ends with this byte, not counting one at its front
abbrev pub ends : ℕ → List ℕ → Bool
ends b word = slice_index (without_left b word) (length (without_left b word) - 1) == b

-- the word without this byte at either end, as far as it stands there
abbrev pub inner : ℕ → List ℕ → List ℕ
inner b word = take (length (without_left b word) - drawn_strip (ends b word)) (without_left b word)

-- the word is an edge line: an optional `+`, one or more `-`, an optional `+`
unfoldable pub is_edge_line : List ℕ → Bool
is_edge_line word = nat_lt 0 (length (inner plus word)) && list_all is_dash (inner plus word)

-- the word is a row: an optional `|`, one or more letters, an optional `|`
unfoldable pub is_row : List ℕ → Bool
is_row word = nat_lt 0 (length (inner bar word)) && list_all is_letter (inner bar word)

-- the shape of a line, if this byte stands at its end on each side that has an edge
unfoldable pub shape_of : ℕ → List ℕ → Shape
shape_of b word = record { left = begins b word; right = ends b word; width = length (inner b word) }

-- the rows of a diagram, in order
abbrev pub rows_of : List (List ℕ) → List (List ℕ)
rows_of diagram = filter is_row diagram

-- the diagram has a row
abbrev pub has_row : List (List ℕ) → Bool
has_row diagram = nat_lt 0 (length (rows_of diagram))

-- the first line is an edge line, which is the top edge
abbrev pub has_top : List (List ℕ) → Bool
has_top [] = false
has_top (word ∷ more) = is_edge_line word

-- the last line is an edge line
abbrev pub ends_in_edge : List (List ℕ) → Bool
ends_in_edge [] = false
ends_in_edge (word ∷ []) = is_edge_line word
ends_in_edge (word ∷ next ∷ more) = ends_in_edge (next ∷ more)

-- the last line is an edge line and there is a row before it, so it is the bottom edge
abbrev pub has_bottom : List (List ℕ) → Bool
has_bottom diagram = has_row diagram && ends_in_edge diagram

-- the shape with which a further line is compared: that of the first of the rows, or of the top edge if there is no row
abbrev pub wanted_of : List (List ℕ) → List (List ℕ) → Option Shape
wanted_of (row ∷ more) diagram = Some (shape_of bar row)
wanted_of [] [] = None
wanted_of [] (top ∷ more) = Some (shape_of plus top)

-- the shape with which a further line of a diagram is compared
unfoldable pub wanted : List (List ℕ) → Option Shape
wanted diagram = wanted_of (rows_of diagram) diagram

-- the width of a shape, or 0 if there is no shape
abbrev pub width_of : Option Shape → ℕ
width_of None = 0
width_of (Some s) = s.width

-- the shape of a word that is an edge line or a row
abbrev pub line_shape : List ℕ → Shape
line_shape word = if is_row word then shape_of bar word else shape_of plus word

-- the shapes have different edges at the sides
abbrev pub other_sides : Shape → Option Shape → Bool
other_sides s None = false
other_sides s (Some w) = not (beq s.left w.left && beq s.right w.right)

-- the shapes have different widths
abbrev pub other_width : Shape → Option Shape → Bool
other_width s None = false
other_width s (Some w) = not (s.width == w.width)

-- a further line stands wrong: a second edge line before any row, a line after the bottom edge, or other side edges
unfoldable pub is_misplaced : List (List ℕ) → List ℕ → Bool
is_misplaced diagram word =
    is_edge_line word && not (has_row diagram) && has_top diagram
    || has_bottom diagram
    || other_sides (line_shape word) (wanted diagram)

-- the first fault of a further line of a diagram
unfoldable pub diagram_fault : List (List ℕ) → List ℕ → Option FaultKind
diagram_fault diagram word = first_of (
    (not (is_edge_line word || is_row word), BadLetter)
    ∷ (is_misplaced diagram word, EdgePlace)
    ∷ (other_width (line_shape word) (wanted diagram), Ragged)
    ∷ (nat_lt largest_size (length word) || nat_le largest_size (length diagram), TooLarge)
    ∷ [])

-- the letters of a row
abbrev pub letters_of_row : List ℕ → List Letter
letters_of_row row = filter_map letter_of (inner bar row)

-- how many of the letters are the star
abbrev pub star_count : List Letter → ℕ
star_count letters = count_by is_star letters

-- the letters of a diagram in reading order
abbrev pub letters_of : List (List ℕ) → List Letter
letters_of diagram = flat_map letters_of_row (rows_of diagram)
