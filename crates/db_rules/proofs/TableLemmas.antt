-- What the table of stages says, read backwards, and what is found at a line.
use Rattle.std.proofs.Common.{◌≡◌, ℕ, Bool, true, false, cond, List, Some, None, refl, arith}
use Rattle.db_lex.specs.declared.line.LineKind.{LineKind}
use Rattle.db_lex.specs.declared.line.LineKind.TheVariants.{Pattern, Other}
use Rattle.db_lex.specs.Lines.{KeptLine, kind_of}
use Rattle.db_rules.specs.declared.fault.Fault.{Fault}
use Rattle.db_rules.specs.declared.stage.TableCell.TheVariants.{Next, Refused}
use Rattle.db_rules.specs.declared.stage.Stage.{Stage}
use Rattle.db_rules.specs.declared.stage.Stage.TheVariants.{Start, Diagram, Labels, Expression, Actions}
use Rattle.db_rules.specs.declared.kind.FaultKind.TheVariants.{StrayLine}
use Rattle.db_rules.specs.Colon.{is_ascii_letter}
use Rattle.db_rules.specs.Blocks.{SoFar, table, cell_for}
use Rattle.db_rules.specs.Faults.{at_line, table_fault, closing_fault, found}

-- a Pattern line that is taken leads to the main diagram
pub pattern_next : (stage next : Stage) (b : ℕ) → table stage Pattern b ≡ Next next → next ≡ Diagram
pattern_next Start next b e = cc
pattern_next Diagram next b e = absurd cc
pattern_next Labels next b e = cc
pattern_next Expression next b e = cc
pattern_next Actions next b e = cc

-- another line that is taken at the start leaves the reader there
pub at_start_only : (letter : Bool) (next : Stage) → cond letter (Next Start) (Refused StrayLine) ≡ Next next
    → next ≡ Start
at_start_only true next e = cc
at_start_only false next e = absurd cc

-- another line that is taken in the main diagram was read there
pub other_diagram : (stage : Stage) (b : ℕ) → table stage Other b ≡ Next Diagram → stage ≡ Diagram
other_diagram Start b e = let start = at_start_only (is_ascii_letter b) Diagram e in absurd cc
other_diagram Diagram b e = refl
other_diagram Labels b e = absurd cc
other_diagram Expression b e = absurd cc
other_diagram Actions b e = absurd cc

-- another line that is taken in the labels was read there
pub other_labels : (stage : Stage) (b : ℕ) → table stage Other b ≡ Next Labels → stage ≡ Labels
other_labels Start b e = let start = at_start_only (is_ascii_letter b) Labels e in absurd cc
other_labels Diagram b e = absurd cc
other_labels Labels b e = refl
other_labels Expression b e = absurd cc
other_labels Actions b e = absurd cc

-- what a line closes is at fault before the line itself
pub found_closing : (helpers : List (List ℕ)) (s : SoFar) (k : KeptLine) (kind : LineKind) (f : Fault)
    → k.is_bad ≡ false → kind ≡ kind_of k.bytes → closing_fault k.number (Some kind) s ≡ Some f
    → found helpers s k ≡ Some f
unfolding found
found_closing helpers s k kind f fine kind_is closing = grind arith

-- where a line closes nothing that is at fault, what is found at it is what the table and its own list have
pub found_table : (helpers : List (List ℕ)) (s : SoFar) (k : KeptLine) (kind : LineKind) → k.is_bad ≡ false
    → kind ≡ kind_of k.bytes → closing_fault k.number (Some kind) s ≡ None
    → found helpers s k ≡ at_line k.number (table_fault helpers s k (cell_for s.stage k))
unfolding found
found_table helpers s k kind fine kind_is closing = grind arith
