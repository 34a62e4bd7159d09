-- The constraint diagram: lines that repeat the main diagram, with labels over some of its letters.
use Rattle.std.specs.Prelude.{ℕ, ◌+◌, Bool, true, false, ◌&&◌, ◌||◌, not, ◌==◌, nat_lt, List, [], ◌∷◌, ◌++◌, length}
use Rattle.std.specs.Prelude.{slice_get, Option, Some, None, if◌then◌else◌}
use Rattle.pat_types.specs.declared.pattern.LabelAt.{LabelAt}
use Rattle.pat_types.specs.Labels.{are_apart}
use Rattle.pat_types.specs.Diagrams.{drawn_strip}
use Rattle.db_rules.specs.declared.kind.FaultKind.{FaultKind}
use Rattle.db_rules.specs.declared.kind.FaultKind.TheVariants.{ConstraintShape}
use Rattle.db_rules.specs.Kinds.{first_of}
use Rattle.db_rules.specs.Diagram.{is_letter, is_row, bar}
use Rattle.db_rules.specs.Colon.{is_ascii_letter}

-- the byte is an ASCII letter other than `O X o x`
abbrev pub is_label : ℕ → Bool
is_label b = is_ascii_letter b && not (is_letter b)

-- the words have the same length, and wherever they differ a label stands over one of the seven letters
abbrev pub repeats : List ℕ → List ℕ → Bool
repeats [] [] = true
repeats [] (w ∷ ws) = false
repeats (m ∷ ms) [] = false
repeats (m ∷ ms) (w ∷ ws) = (w == m || is_label w && is_letter m) && repeats ms ws

-- the labels of a line: the bytes in which it differs from the main line. The line stands in this row, and its first
-- byte in column col
abbrev pub labels_from : ℕ → ℕ → List ℕ → List ℕ → List LabelAt
labels_from row col [] word = []
labels_from row col (m ∷ ms) [] = []
labels_from row col (m ∷ ms) (w ∷ ws) =
    if w == m then labels_from row (col + 1) ms ws else record {
      letter = w;
      row = row;
      col =
          col;
    } ∷ labels_from row (col + 1) ms ws

-- the labels of a line in this row that repeats this main line; a `|` at the front of the main line is no column
abbrev pub labels_of_line : ℕ → List ℕ → List ℕ → List LabelAt
labels_of_line row (m ∷ ms) (w ∷ ws) = if m == bar then labels_from row 0 ms ws else labels_from row 0 (m ∷ ms) (w ∷ ws)
labels_of_line row [] word = []
labels_of_line row (m ∷ ms) [] = []

-- the labels of lines of a constraint diagram that repeat these main lines, if this many rows stand above them
unfoldable pub labels_under : ℕ → List (List ℕ) → List (List ℕ) → List LabelAt
labels_under row [] words = []
labels_under row (main ∷ mains) [] = []
labels_under row (main ∷ mains) (word ∷ words) =
    labels_of_line row main word ++ labels_under (row + drawn_strip (is_row main)) mains words

-- the labels of a constraint diagram
abbrev pub labels_of : List (List ℕ) → List (List ℕ) → List LabelAt
labels_of diagram words = labels_under 0 diagram words

-- there is a main line, and the word repeats it
abbrev pub repeats_main : Option (List ℕ) → List ℕ → Bool
repeats_main None word = false
repeats_main (Some main) word = repeats main word

-- the first fault of a further line of a constraint diagram that has these lines so far
unfoldable pub constraint_fault : List (List ℕ) → List (List ℕ) → List ℕ → Option FaultKind
constraint_fault diagram words word = first_of ((
  not (repeats_main (slice_get diagram (length words)) word
      && are_apart (labels_of diagram (words ++ word ∷ []))),
  ConstraintShape,
)
    ∷ [])

-- the fault of a constraint diagram at its end: it has a line, but fewer lines than the main diagram
unfoldable pub labels_closing_fault : List (List ℕ) → List (List ℕ) → Option FaultKind
labels_closing_fault diagram words =
    first_of ((nat_lt 0 (length words) && nat_lt (length words) (length diagram), ConstraintShape) ∷ [])
