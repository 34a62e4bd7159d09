-- The lines of diagrams: edge lines and rows.
use Rattle.std.specs.Prelude.{ℕ, Bool, true, false, List, Option, Some, None, if◌then◌else◌}
use Rattle.db_rules.specs.declared.shape.Shape.{Shape}
use Rattle.db_rules.specs.Diagram.{is_row as is_row_word, is_edge_line, shape_of, bar, plus}
use Rattle.db_entry.specs.declared.line.DiagramLine.{DiagramLine}
use Rattle.db_entry.specs.declared.line.DiagramLine.TheVariants.{Edge, Row}

-- the diagram line that a word is, with its shape: a row or an edge line; none if it is neither
abbrev pub line_of : List ℕ → Option DiagramLine
line_of word =
    if is_row_word word then Some (Row (shape_of bar word))
    else if is_edge_line word then Some (Edge (shape_of plus word)) else None

-- the line is an edge line
abbrev pub is_edge : DiagramLine → Bool
is_edge (Edge shape) = true
is_edge (Row shape) = false

-- the line is a row
abbrev pub is_row : DiagramLine → Bool
is_row (Edge shape) = false
is_row (Row shape) = true

-- the shape of the line
abbrev pub shape_on : DiagramLine → Shape
shape_on (Edge shape) = shape
shape_on (Row shape) = shape
