-- The pattern that a complete draft makes is one.
use Rattle.std.proofs.Common.{◌≡◌, ℕ, ◌/◌, ◌%◌, List, Some, refl, ap, arith}
use Rattle.std.specs.Prelude.{unwrap_or, true}
use Rattle.std.specs.List.{position_or_len}
use Rattle.pat_types.specs.Diagrams.{IsDiagram, is_star}
use Rattle.pat_types.specs.Labels.{are_labels}
use Rattle.db_rules.specs.declared.shape.Shape.{Shape}
use Rattle.db_rules.specs.Diagram.{wanted}
use Rattle.db_rules.specs.Entries.{shape_in}
use Rattle.db_rules.proofs.EntryLemmas.{no_shape, diagram_of_entry, width_of-shape_in}
use Rattle.db_rules.proofs.ConstraintDiagrams.{labels_are_labels}
use Rattle.db_lex.specs.declared.line.LineKind.TheVariants.{Pattern, Semicolon}
use Rattle.db_rules.specs.declared.stage.Stage.{Stage}
use Rattle.db_rules.specs.declared.stage.Stage.TheVariants.{Start, Diagram, Labels, Expression, Actions}
use Rattle.db_rules.specs.declared.stage.TableCell.TheVariants.{Next}
use Rattle.db_rules.specs.Blocks.{Block, SoFar, table}
use Rattle.db_read.specs.declared.draft.Draft.{Draft}
use Rattle.db_read.specs.declared.reader.Reader.{Reader}
use Rattle.db_read.specs.Drafts.{Drafts, IsComplete}
use Rattle.db_read.specs.Reading.{IsAtStage, Shows, IsTaking}
use Rattle.db_read.proofs.ReaderLemmas.{judged_without}

-- the shape of its rows is the one that is kept
shape_is_kept : (words : List (List ℕ)) (shape : Shape) → wanted words ≡ Some shape → shape_in words ≡ shape
shape_is_kept words shape same = ap (λ o. unwrap_or o no_shape) same

-- its diagram is one that a pattern may have
pub finished_diagram : (d : Draft) (shape : Shape) (star : ℕ) → IsComplete d
    → d.diagram.shape ≡ Some shape → star ≡ position_or_len is_star d.diagram.letters
    → IsDiagram d.diagram.rows shape.width d.diagram.letters d.diagram.top d.diagram.bottom shape.left shape.right
    (star / shape.width, star % shape.width)
finished_diagram d shape star whole shape_is star_is = grind (arith, shape_is_kept, diagram_of_entry)

-- its labels lie in the diagram and have different letters
pub finished_labels : (d : Draft) (shape : Shape) → IsComplete d → d.diagram.shape ≡ Some shape
    → are_labels d.diagram.rows shape.width d.marks.labels ≡ true
finished_labels d shape whole shape_is = grind (arith, shape_is_kept, width_of-shape_in, labels_are_labels)

-- the draft of a block that is left is complete: it has one star, and no expression is open
pub complete_at : (stage : Stage) (d : Draft) (b : Block) → (stage ≡ Start → ⊥) → (stage ≡ Diagram → ⊥)
    → (stage ≡ Expression → ⊥) → Drafts d b → IsAtStage stage d b → IsComplete d
complete_at Start d b on left closed drafts there = absurd (on refl)
complete_at Diagram d b on left closed drafts there = absurd (left refl)
complete_at Labels d b on left closed drafts there = grind (arith, judged_without)
complete_at Expression d b on left closed drafts there = absurd (closed refl)
complete_at Actions d b on left closed drafts there = grind arith

-- a draft that is left is complete, unless there is none
pub complete_draft : (r : Reader) (s : SoFar) → Shows r s → (r.stage ≡ Start → ⊥) → (r.stage ≡ Diagram → ⊥)
    → (r.stage ≡ Expression → ⊥) → IsComplete r.draft
complete_draft r s shows on left closed = grind (arith, complete_at)

-- where the table takes a Pattern line no main diagram is open
no_diagram_before : (stage : Stage) (first : ℕ) → table stage Pattern first ≡ Next Diagram → stage ≡ Diagram → ⊥
no_diagram_before Start first next same = absurd cc
no_diagram_before Diagram first next same = absurd cc
no_diagram_before Labels first next same = absurd cc
no_diagram_before Expression first next same = absurd cc
no_diagram_before Actions first next same = absurd cc

-- a Pattern line is no expression line
pattern_no_semicolon : Pattern ≡ Semicolon → ⊥
pattern_no_semicolon same = absurd cc

-- a draft that a Pattern line ends is complete, unless there is none
pub complete_at_pattern_line : (r : Reader) (first : ℕ) → IsTaking r Pattern first Diagram → (r.stage ≡ Start → ⊥)
    → IsComplete r.draft
complete_at_pattern_line r first taking on = grind (arith, complete_draft, no_diagram_before, pattern_no_semicolon)
