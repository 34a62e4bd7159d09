-- What a reader keeps of the lines of a block.
use Rattle.go_rules.specs.Board.{largest_size}
use Rattle.std.specs.Prelude.{◌≡◌, ◌≤◌, take, ◌*◌, ◌&&◌, ◌||◌, not, nat_lt, nat_le, ℕ, List, [], ◌∷◌, length, Option}
use Rattle.db_entry.specs.declared.diagram.Diagram.{Diagram}
use Rattle.db_entry.specs.declared.marks.Marks.{Marks}
use Rattle.db_rules.specs.Labels.{labels_of}
use Rattle.db_rules.specs.declared.kind.FaultKind.{FaultKind}
use Rattle.db_rules.specs.declared.kind.FaultKind.TheVariants.{EdgePlace, Ragged, TooLarge}
use Rattle.db_rules.specs.Kinds.{first_of}
use Rattle.db_entry.specs.declared.line.DiagramLine.{DiagramLine}
use Rattle.db_entry.specs.DiagramLines.{is_edge, shape_on}
use Rattle.db_rules.specs.Diagram.{other_sides, other_width, rows_of, has_top, has_bottom, wanted, letters_of, width_of}

-- the first fault of a diagram line of this many bytes, by what is kept of the lines before it
abbrev pub kept_fault : Diagram → DiagramLine → ℕ → Option FaultKind
kept_fault d line bytes = first_of ((
  is_edge line && not (nat_lt 0 d.rows) && d.top || d.bottom || other_sides (shape_on line) d.shape,
  EdgePlace,
)
    ∷ (other_width (shape_on line) d.shape, Ragged)
    ∷ (nat_lt largest_size bytes || nat_le largest_size d.lines, TooLarge)
    ∷ [])

-- d is what a reader keeps of a main diagram whose lines have these words
pub record Draws (d : Diagram) (words : List (List ℕ)) : Type 0 where
  pub lines : d.lines ≡ length words
  pub rows : d.rows ≡ length (rows_of words)
  pub top : d.top ≡ has_top words
  pub bottom : d.bottom ≡ has_bottom words
  pub shape : d.shape ≡ wanted words
  pub letters : d.letters ≡ letters_of words
  pub whole : length (letters_of words) ≡ length (rows_of words) * width_of (wanted words)

-- m is what a reader keeps of a constraint diagram whose lines have these words, under this main diagram
pub record IsMarked (m : Marks) (diagram words : List (List ℕ)) : Type 0 where
  pub lines : m.lines ≡ length words
  pub within : length words ≤ length diagram
  pub rows : m.rows ≡ length (rows_of (take (length words) diagram))
  pub labels : m.labels ≡ labels_of diagram words
