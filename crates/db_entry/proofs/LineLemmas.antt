-- The line that a word is, and what the words of the grammar say of it.
use Rattle.std.proofs.Common.{◌≡◌, ℕ, Bool, true, false, not, cond, List, [], ◌∷◌, length, Some, None, refl, sym, arith}
use Rattle.std.specs.Prelude.{◌||◌, nat_lt, nat_le, is_some}
use Rattle.go_rules.specs.Board.{largest_size}
use Rattle.db_rules.specs.declared.shape.Shape.{Shape}
use Rattle.db_rules.specs.declared.kind.FaultKind.{FaultKind}
use Rattle.db_rules.specs.declared.kind.FaultKind.TheVariants.{BadLetter, EdgePlace, Ragged, TooLarge}
use Rattle.db_rules.specs.Kinds.{first_of}
use Rattle.db_rules.specs.Diagram.{is_row as is_row_word, is_edge_line, shape_of, line_shape, bar, plus, other_width}
use Rattle.db_rules.specs.Diagram.{wanted, is_misplaced, diagram_fault}
use Rattle.db_rules.proofs.MainDiagrams.{row_is_no_edge_line}
use Rattle.db_entry.specs.declared.line.DiagramLine.{DiagramLine}
use Rattle.db_entry.specs.declared.line.DiagramLine.TheVariants.{Edge, Row}
use Rattle.db_entry.specs.DiagramLines.{line_of, is_edge, is_row, shape_on}

-- the line is the one that the word is: of its kind and shape
pub record Classifies (line : DiagramLine) (word : List ℕ) : Type 0 where
  pub edge : is_edge line ≡ is_edge_line word
  pub row : is_row line ≡ is_row_word word
  pub shape : shape_on line ≡ line_shape word
  pub some : (is_edge_line word || is_row_word word) ≡ true

-- a row has its kind and shape
row_classifies : (word : List ℕ) → is_row_word word ≡ true → Classifies (Row (shape_of bar word)) word
row_classifies word row = grind (arith, row_is_no_edge_line)

-- and so has an edge line
edge_classifies : (word : List ℕ) → is_row_word word ≡ false → is_edge_line word ≡ true
    → Classifies (Edge (shape_of plus word)) word
edge_classifies word row edge = record { edge = sym edge; row = sym row; shape = rw row refl; some = rw edge refl }

-- a word that is a line has its kind and shape
pub line_classifies : (word : List ℕ) (line : DiagramLine) → line_of word ≡ Some line → Classifies line word
line_classifies word line e = grind (arith, row_classifies, edge_classifies)

-- where a test fails its fault is the first
first-fails : (b : Bool) (kind : FaultKind) (more : List (Bool × FaultKind)) → b ≡ false
    → first_of ((not b, kind) ∷ more) ≡ Some kind
first-fails true kind more e = absurd cc
first-fails false kind more e = refl

-- there is something under a test exactly if it passes
pub is_some-where : (b : Bool) (shape : Shape) → is_some (cond b (Some shape) None) ≡ b
is_some-where true shape = refl
is_some-where false shape = refl

-- where a test passes the first fault is that of the tests behind it
pub first-passes : (b : Bool) (kind : FaultKind) (more : List (Bool × FaultKind)) → b ≡ true
    → first_of ((not b, kind) ∷ more) ≡ first_of more
first-passes true kind more e = refl
first-passes false kind more e = absurd cc

-- the tests of a further line behind the test that it is one
abbrev pub later_tests : List (List ℕ) → List ℕ → List (Bool × FaultKind)
later_tests words word =
    (is_misplaced words word, EdgePlace)
    ∷ (other_width (line_shape word) (wanted words), Ragged)
    ∷ (nat_lt largest_size (length word) || nat_le largest_size (length words), TooLarge)
    ∷ []

-- a word that is no line has a byte that no line has there
pub no_line_fault : (words : List (List ℕ)) (word : List ℕ) → line_of word ≡ None
    → diagram_fault words word ≡ Some BadLetter
unfolding diagram_fault
no_line_fault words word e = grind (arith, first-fails)
