-- What is read of a line that the table takes, and the error of a line that is refused.
use Rattle.std.proofs.Common.{◌≡◌, ℕ, false, List, Option, Some, None, refl, ap, arith}
use Rattle.db_lex.specs.declared.line.LineKind.{LineKind}
use Rattle.db_lex.specs.declared.line.LineKind.TheVariants.{Pattern, Colon, Semicolon, Action, Other}
use Rattle.db_lex.specs.Lines.{KeptLine, kind_of}
use Rattle.db_rules.specs.declared.fault.LineError.{LineError}
use Rattle.db_rules.specs.declared.kind.FaultKind.{FaultKind}
use Rattle.db_rules.specs.declared.fault.LineError.TheVariants as line_errors
use Rattle.db_rules.specs.declared.stage.TableCell.{TableCell}
use Rattle.db_rules.specs.declared.stage.TableCell.TheVariants.{Next, Refused}
use Rattle.db_rules.specs.declared.stage.Stage.{Stage}
use Rattle.db_rules.specs.declared.stage.Stage.TheVariants.{Start, Diagram, Labels, Expression, Actions}
use Rattle.db_rules.specs.Blocks.{Block, SoFar, table, cell_for, end_refused, after_line, with_cell, placed}
use Rattle.db_rules.specs.Faults.{Blames, at_line, own_fault, table_fault, closing_fault, found, found_at_end}
use Rattle.db_rules.proofs.TableLemmas.{found_closing}
use Rattle.db_read.specs.declared.error.DbError.{DbError}
use Rattle.db_read.specs.declared.reader.Reader.{Reader}
use Rattle.db_read.specs.Reading.{BlamesAt, error_at, Shows, settled, settled_stage}
use Rattle.db_read.proofs.ReaderLemmas.{parts}
use Rattle.db_read.proofs.ReadLemmas.{end_closing}

-- a line that is taken
pub tabled_ok : (helpers : List (List ℕ)) (s : SoFar) (k : KeptLine) (kind : LineKind) (next : Stage) (n : Reader)
    → kind ≡ kind_of k.bytes → cell_for s.stage k ≡ Next next
    → (own_fault helpers s k kind ≡ None) × Shows n (placed k next s kind)
    → (table_fault helpers s k (cell_for s.stage k) ≡ None) × Shows n (after_line s k)
unfolding after_line
tabled_ok helpers s k kind next n kind_is cell read = grind arith

-- the error of a line of this number
pub blames_line : (number : ℕ) (e : LineError) (kind : Option FaultKind) → Blames e kind
    → BlamesAt (error_at number e) (at_line number kind)
blames_line number line_errors.NoMemory kind h = tt
blames_line number (line_errors.Kind k) kind h = ap (at_line number) h

-- the fault of a line of this kind by its cell
abbrev fault_by : List (List ℕ) → SoFar → KeptLine → LineKind → TableCell → Option FaultKind
fault_by helpers s line kind (Refused fault) = Some fault
fault_by helpers s line kind (Next stage) = own_fault helpers s line kind

-- what the lines come to with a line of this kind by its cell
abbrev after_by : SoFar → KeptLine → LineKind → TableCell → SoFar
after_by s line kind (Next stage) = placed line stage s kind
after_by s line kind (Refused fault) = s

-- the fault of a line by its cell is the one by its kind
fault-by : (helpers : List (List ℕ)) (s : SoFar) (line : KeptLine) (cell : TableCell)
    → table_fault helpers s line cell ≡ fault_by helpers s line (kind_of line.bytes) cell
fault-by helpers s line (Refused fault) = refl
fault-by helpers s line (Next stage) = refl

-- what the lines come to with a line by its cell is what they come to by its kind
after-by : (s : SoFar) (line : KeptLine) (cell : TableCell)
    → with_cell s line cell ≡ after_by s line (kind_of line.bytes) cell
after-by s line (Next stage) = refl
after-by s line (Refused fault) = refl

-- an expression that is left behind changes no fault of the line that leaves it
settled_fault : (helpers : List (List ℕ)) (kind : LineKind) (stage : Stage) (front : List KeptLine) (done : List Block)
    (now : Option Block) (line : KeptLine) (byte : ℕ)
    → fault_by helpers (settled (Some kind) (parts stage front done now)) line kind
    (table (settled_stage stage (Some kind)) kind byte)
    ≡ fault_by helpers (parts stage front done now) line kind (table stage kind byte)
settled_fault helpers kind Start front done now line byte = refl
settled_fault helpers kind Diagram front done now line byte = refl
settled_fault helpers kind Labels front done now line byte = refl
settled_fault helpers kind Actions front done now line byte = refl
settled_fault helpers Pattern Expression front done now line byte = refl
settled_fault helpers Colon Expression front done now line byte = refl
settled_fault helpers Semicolon Expression front done now line byte = refl
settled_fault helpers Action Expression front done now line byte = refl
settled_fault helpers Other Expression front done now line byte = refl

-- an expression that is left behind does not change where a line without a fault goes
settled_after : (helpers : List (List ℕ)) (kind : LineKind) (stage : Stage) (front : List KeptLine) (done : List Block)
    (now : Option Block) (line : KeptLine) (byte : ℕ)
    → fault_by helpers (parts stage front done now) line kind (table stage kind byte) ≡ None
    → after_by (settled (Some kind) (parts stage front done now)) line kind
    (table (settled_stage stage (Some kind)) kind byte)
    ≡ after_by (parts stage front done now) line kind (table stage kind byte)
settled_after helpers kind Start front done now line byte none = refl
settled_after helpers kind Diagram front done now line byte none = refl
settled_after helpers kind Labels front done now line byte none = refl
settled_after helpers kind Actions front done now line byte none = refl
settled_after helpers Pattern Expression front done now line byte none = refl
settled_after helpers Colon Expression front done now line byte none = absurd cc
settled_after helpers Semicolon Expression front done now line byte none = refl
settled_after helpers Action Expression front done now line byte none = refl
settled_after helpers Other Expression front done now line byte none = absurd cc

-- a line meets the same behind what it closes
pub record IsSame (helpers : List (List ℕ)) (kind : LineKind) (s : SoFar) (line : KeptLine) : Type 0 where
  pub fault : table_fault helpers (settled (Some kind) s) line (cell_for (settled_stage s.stage (Some kind)) line)
      ≡ table_fault helpers s line (cell_for s.stage line)
  pub after : table_fault helpers s line (cell_for s.stage line) ≡ None
      → after_line (settled (Some kind) s) line ≡ after_line s line

-- each line meets the same behind what it closes
pub same_behind : (helpers : List (List ℕ)) (kind : LineKind) (s : SoFar) (line : KeptLine) → kind ≡ kind_of line.bytes
    → IsSame helpers kind s line
unfolding after_line
same_behind helpers kind s line kind_is = grind (arith, fault-by, settled_fault, after-by, settled_after)

-- what the end closes changes nothing of the end
pub same_end : (stage : Stage) → end_refused (settled_stage stage None) ≡ end_refused stage
same_end Start = refl
same_end Diagram = refl
same_end Labels = refl
same_end Expression = refl
same_end Actions = refl

-- an action line that is taken leads to the actions
pub action_next : (stage next : Stage) (byte : ℕ) → table stage Action byte ≡ Next next → next ≡ Actions
action_next Start next byte e = absurd cc
action_next Diagram next byte e = absurd cc
action_next Labels next byte e = cc
action_next Expression next byte e = cc
action_next Actions next byte e = cc

-- an action line is no expression line
pub action_no_semicolon : Action ≡ Semicolon → ⊥
action_no_semicolon same = absurd cc

-- an error of what a line closes is one of the line
pub blames_closing : (helpers : List (List ℕ)) (s : SoFar) (k : KeptLine) (kind : LineKind) (e : DbError)
    → k.is_bad ≡ false
    → kind ≡ kind_of k.bytes → BlamesAt e (closing_fault k.number (Some kind) s) → BlamesAt e (found helpers s k)
blames_closing helpers s k kind v4 fine kind_is blames = grind (arith, found_closing)

-- an error of what the end closes is one of the end
pub blames_end : (number : ℕ) (s : SoFar) (e : DbError) → BlamesAt e (closing_fault number None s)
    → BlamesAt e (found_at_end number s)
blames_end number s v2 blames = grind (arith, end_closing)
