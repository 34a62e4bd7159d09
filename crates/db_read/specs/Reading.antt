-- What a reader has read of a text.
use Rattle.std.specs.Prelude.{◌≡◌, ◌≢◌, ℕ, [], length, map, Option, Some, None}
use Rattle.db_read.specs.declared.draft.Draft.{Draft}
use Rattle.db_read.specs.declared.error.DbError.{DbError}
use Rattle.db_read.specs.declared.error.DbError.TheVariants as errors
use Rattle.db_rules.specs.declared.fault.LineError.{LineError}
use Rattle.db_rules.specs.declared.fault.LineError.TheVariants as line_errors
use Rattle.db_rules.specs.declared.fault.Fault.{Fault}
use Rattle.db_read.specs.declared.reader.Reader.{Reader}
use Rattle.db_rules.specs.declared.stage.Stage.{Stage}
use Rattle.db_rules.specs.declared.stage.Stage.TheVariants.{Start, Diagram, Labels, Expression, Actions}
use Rattle.cons_parse.specs.declared.error.ConsError.{ConsError}
use Rattle.cons_parse.specs.declared.error.ConsError.TheVariants as cons_errors
use Rattle.db_rules.specs.declared.kind.FaultKind.{FaultKind}
use Rattle.db_rules.specs.Kinds.{number_of}
use Rattle.db_rules.specs.Expressions.{kind_told}
use Rattle.db_lex.specs.declared.line.LineKind.{LineKind}
use Rattle.db_lex.specs.declared.line.LineKind.TheVariants.{Semicolon}
use Rattle.db_rules.specs.declared.stage.TableCell.TheVariants.{Next}
use Rattle.db_rules.specs.Blocks.{Block, SoFar, blocks_of, table}
use Rattle.db_read.specs.Drafts.{Drafts, IsPastColon, IsUnjudged, IsJudged}
use Rattle.db_rules.specs.Entries.{entry_of, entry_of_block}

-- the error is NoMemory, or it is this fault
abbrev pub BlamesAt : DbError → Option Fault → Type 0
BlamesAt errors.NoMemory fault = Unit {0}
BlamesAt (errors.Fault line kind) fault = fault ≡ Some (record { line = line; kind = kind })

-- the error that a fault of this kind at this line is reported as
abbrev pub fault_told : ℕ → FaultKind → DbError
fault_told line kind = errors.Fault line (number_of kind)

-- the error of the text, if the line of this number has this error
abbrev pub error_at : ℕ → LineError → DbError
error_at number line_errors.NoMemory = errors.NoMemory
error_at number (line_errors.Kind kind) = fault_told number kind

-- the error that a fault of an expression is reported as, if the expression begins at the line of this number
abbrev pub expression_error : ℕ → ConsError → DbError
expression_error line cons_errors.NoMemory = errors.NoMemory
expression_error line e = fault_told line (kind_told e)

-- the stage once a line of this kind, or the end of the text, has closed what it ends: a closed expression is left
abbrev pub settled_stage : Stage → Option LineKind → Stage
settled_stage Expression (Some Semicolon) = Expression
settled_stage Expression _ = Actions
settled_stage Start _ = Start
settled_stage Diagram _ = Diagram
settled_stage Labels _ = Labels
settled_stage Actions _ = Actions

-- what has been read, once a line of this kind, or the end of the text, has closed what it ends
abbrev pub settled : Option LineKind → SoFar → SoFar
settled kind s = record { stage = settled_stage s.stage kind; front = s.front; done = s.done; now = s.now }

-- in the stage Diagram a block has neither a colon line nor a constraint diagram, and in a later one it has a colon
-- line, behind a diagram with one star; its expression is judged once the stage Expression is left
abbrev pub IsAtStage : Stage → Draft → Block → Type 0
IsAtStage Start d b = Unit {0}
IsAtStage Diagram d b = (b.colon ≡ []) × (b.constraint ≡ []) × IsUnjudged d
IsAtStage Labels d b = IsPastColon b × IsUnjudged d
IsAtStage Expression d b = IsPastColon b × (d.constraint ≡ None)
IsAtStage Actions d b = IsPastColon b × IsJudged d

-- the draft has read the block that may go on; only at the start is there no such block
abbrev pub ReadsNow : Draft → Stage → Option Block → Type 0
ReadsNow d stage None = stage ≡ Start
ReadsNow d stage (Some b) = Drafts d b × IsAtStage stage d b × (stage ≢ Start)

-- the reader has read what s says
pub record Shows (r : Reader) (s : SoFar) : Type 0 where
  pub stage : r.stage ≡ s.stage
  pub entries : map entry_of r.done.items ≡ map entry_of_block s.done
  pub count : r.begun ≡ length (blocks_of s)
  pub draft : ReadsNow r.draft s.stage s.now

-- the reader has read some lines of a text
pub record IsReading (r : Reader) : Type 0 where
  pub so_far : SoFar
  pub shows : Shows r so_far

-- the reader has read some lines, and the table takes a line of this kind and first byte to this stage; if the line
-- ends an expression, the expression is already closed
pub record IsTaking (r : Reader) (kind : LineKind) (first : ℕ) (stage : Stage) : Type 0 where
  pub so_far : SoFar
  pub shows : Shows r so_far
  pub next : table so_far.stage kind first ≡ Next stage
  pub settled : r.stage ≡ Expression → kind ≡ Semicolon
