-- What is kept of a main diagram decides what a further line does to it.
use Rattle.go_rules.specs.Board.{largest_size}
use Rattle.std.proofs.Common.{◌≡◌, ℕ, ◌+◌, Bool, true, false, not, cond, List, [], ◌∷◌, ◌++◌, length, Option, Some}
use Rattle.std.proofs.Common.{None, refl, arith}
use Rattle.std.specs.Prelude.{◌&&◌, ◌||◌, nat_lt, nat_le}
use Rattle.std.proofs.lemmas.List.{length-append}
use Rattle.pat_types.specs.Diagrams.{drawn_strip}
use Rattle.db_entry.specs.declared.diagram.Diagram.{Diagram}
use Rattle.db_rules.specs.declared.shape.Shape.{Shape}
use Rattle.db_rules.specs.declared.kind.FaultKind.{FaultKind}
use Rattle.db_rules.specs.declared.kind.FaultKind.TheVariants.{EdgePlace, Ragged, TooLarge}
use Rattle.db_rules.specs.Kinds.{first_of}
use Rattle.db_rules.specs.Diagram.{is_edge_line, is_row, rows_of, has_top, has_bottom, wanted, line_shape, other_sides}
use Rattle.db_rules.specs.Diagram.{other_width, is_misplaced, diagram_fault, letters_of_row}
use Rattle.db_rules.proofs.OneMoreLine.{length-rows_of-push, has_top-push, ends_in_edge-push, wanted-push}
use Rattle.db_rules.proofs.OneMoreLine.{letters_of-push, whole-push}
use Rattle.db_entry.specs.declared.line.DiagramLine.{DiagramLine}
use Rattle.db_entry.specs.DiagramLines.{is_edge, shape_on}
use Rattle.db_entry.specs.Reads.{Draws, kept_fault}
use Rattle.db_entry.proofs.LineLemmas.{Classifies, first-passes}

-- the fault of a row or an edge line, by what is kept of the lines before it
by_parts : ℕ → ℕ → Bool → Bool → Option Shape → Bool → Shape → ℕ → Option FaultKind
by_parts lines rows top bottom wants edge shape bytes = first_of (
    (edge && not (nat_lt 0 rows) && top || bottom || other_sides shape wants, EdgePlace)
    ∷ (other_width shape wants, Ragged)
    ∷ (nat_lt largest_size bytes || nat_le largest_size lines, TooLarge)
    ∷ [])

-- the first fault of a word that is a row or an edge line is that one
by_parts-is : (words : List (List ℕ)) (word : List ℕ) → (is_edge_line word || is_row word) ≡ true
    → by_parts (length words) (length (rows_of words)) (has_top words) (has_bottom words) (wanted words)
    (is_edge_line word) (line_shape word) (length word)
    ≡ diagram_fault words word
unfolding diagram_fault is_misplaced by_parts
by_parts-is words word line = grind (arith, first-passes)

-- what is kept of a diagram are these parts
kept-by_parts : (d : Diagram) (line : DiagramLine) (bytes : ℕ)
    → kept_fault d line bytes
    ≡ by_parts d.lines d.rows d.top d.bottom d.shape (is_edge line) (shape_on line) bytes
unfolding by_parts
kept-by_parts d line bytes = refl

-- what is kept is enough
pub fault_is : (d : Diagram) (words : List (List ℕ)) (word : List ℕ) (line : DiagramLine) → Draws d words
    → Classifies line word → kept_fault d line (length word) ≡ diagram_fault words word
fault_is d words word line s is = grind (arith, kept-by_parts, by_parts-is)

-- the tests of a list of three faults of which none fits
pub record AreThreeFalse (a b c : Bool) : Type 0 where
  pub first : a ≡ false
  pub second : b ≡ false
  pub third : c ≡ false

-- if no fault of a list of three fits, no test passes
pub none_of_three : (a b c : Bool) (k l m : FaultKind) → first_of ((a, k) ∷ (b, l) ∷ (c, m) ∷ []) ≡ None
    → AreThreeFalse a b c
none_of_three true b c k l m e = absurd cc
none_of_three false true c k l m e = absurd cc
none_of_three false false true k l m e = absurd cc
none_of_three false false false k l m e = record { first = refl; second = refl; third = refl }

-- what is kept after a line that has no fault
pub Draws-push : (d n : Diagram) (words : List (List ℕ)) (word : List ℕ) → Draws d words
    → other_width (line_shape word) d.shape ≡ false
    → n.lines ≡ d.lines + 1
    → n.rows ≡ d.rows + drawn_strip (is_row word)
    → n.top ≡ cond (nat_lt 0 d.lines) d.top (is_edge_line word)
    → n.bottom ≡ (nat_lt 0 n.rows && is_edge_line word)
    → n.shape ≡ cond (nat_lt 0 d.rows || not (is_row word) && nat_lt 0 d.lines) d.shape (Some (line_shape word))
    → n.letters ≡ d.letters ++ cond (is_row word) (letters_of_row word) []
    → Draws n (words ++ word ∷ [])
Draws-push d n words word s even lines rows top bottom shape letters =
    grind (
      arith,
      length-rows_of-push,
      length-append,
      has_top-push,
      ends_in_edge-push,
      wanted-push,
      letters_of-push,
      whole-push,
    )
