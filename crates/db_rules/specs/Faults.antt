-- The first fault of a database text.
use Rattle.std.specs.Prelude.{◌≡◌, ℕ, zero, suc, ◌+◌, Bool, true, false, ◌&&◌, ◌||◌, not, ◌==◌, nat_lt, nat_le, List}
use Rattle.std.specs.Prelude.{[], ◌∷◌, length, take, map, slice_get, Option, Some, None, if◌then◌else◌}
use Rattle.std.specs.List.{list_all}
use Rattle.std.specs.Option.{option_map}
use Rattle.db_lex.specs.declared.line.LineKind.{LineKind}
use Rattle.db_lex.specs.declared.line.LineKind.TheVariants.{Pattern, Colon, Semicolon, Action, Other}
use Rattle.db_lex.specs.Lines.{KeptLine, kept_lines, lines_of, kind_of, word_of}
use Rattle.db_rules.specs.declared.kind.FaultKind.{FaultKind}
use Rattle.db_rules.specs.declared.kind.FaultKind.TheVariants.{BadByte, NoName, TooManyPatterns}
use Rattle.db_rules.specs.Kinds.{number_of, first_of}
use Rattle.db_rules.specs.Diagram.{diagram_fault}
use Rattle.db_rules.specs.Colon.{colon_fault}
use Rattle.db_rules.specs.Labels.{constraint_fault, labels_closing_fault, labels_of}
use Rattle.db_rules.specs.Expressions.{kind_of_expression}
use Rattle.db_rules.specs.Blocks.{Block, blocks_of, SoFar, words_in, cell_for, end_refused, so_far}
use Rattle.db_rules.specs.Entries.{Entry, name_on, entry_of_block}
use Rattle.db_rules.specs.declared.fault.Fault.{Fault}
use Rattle.db_rules.specs.declared.fault.LineError.{LineError}
use Rattle.db_rules.specs.declared.fault.LineError.TheVariants as errors
use Rattle.db_rules.specs.declared.stage.TableCell.{TableCell}
use Rattle.db_rules.specs.declared.stage.TableCell.TheVariants.{Next, Refused}
use Rattle.db_rules.specs.declared.stage.Stage.{Stage}
use Rattle.db_rules.specs.declared.stage.Stage.TheVariants.{Diagram, Labels, Expression}

-- the first of two faults, or the second if there is no first
abbrev pub or_else : {A : Type 0} → Option A → Option A → Option A
or_else (Some a) b = Some a
or_else None b = b

-- the byte may stand in the name of an entry
abbrev pub is_name_char : ℕ → Bool
is_name_char b = nat_le 33 b && nat_le b 126

-- the most entries that a text may have
abbrev pub most_entries : ℕ
most_entries = 4096

-- the Pattern line has no name, or one that is too long or has a byte that no name has
abbrev pub is_unnamed : List ℕ → Bool
is_unnamed line =
    length (name_on line) == 0 || nat_lt 80 (length (name_on line)) || not (list_all is_name_char (name_on line))

-- the first fault of a Pattern line, if this many entries begin before it
unfoldable pub pattern_fault : ℕ → List ℕ → Option FaultKind
pattern_fault entries line = first_of (
    (nat_le most_entries entries, TooManyPatterns)
    ∷ (is_unnamed line, NoName)
    ∷ [])

-- the fault of this kind at this line; its kind is given by its number
abbrev pub at_line : ℕ → Option FaultKind → Option Fault
at_line line kind = option_map (λ k. record { line = line; kind = number_of k }) kind

-- the number of the first of these lines
abbrev pub first_number : List KeptLine → ℕ
first_number [] = 0
first_number (line ∷ more) = line.number

-- the kind of the fault of a block's expression
abbrev pub expression_kind : Block → Option FaultKind
expression_kind b = kind_of_expression (labels_of (words_in b.diagram) (words_in b.constraint)) b.expression

-- the fault of a block's expression, which is reported at the first line of the expression
abbrev pub expression_fault : Block → Option Fault
expression_fault b = at_line (first_number b.expression) (expression_kind b)

-- a line of this kind, or the end of the text, ends the constraint diagram or the expression of this stage
abbrev pub closes : Stage → Option LineKind → Bool
closes Labels (Some Other) = false
closes Labels _ = true
closes Expression (Some Semicolon) = false
closes Expression _ = true
closes _ _ = false

-- the fault of the constraint diagram or the expression that this stage has gathered in a block
abbrev pub gathered_fault : ℕ → Stage → Option Block → Option Fault
gathered_fault number stage None = None
gathered_fault number Labels (Some b) =
    at_line number (labels_closing_fault (words_in b.diagram) (words_in b.constraint))
gathered_fault number Expression (Some b) = expression_fault b
gathered_fault number _ (Some b) = None

-- the fault of the constraint diagram or the expression, if a line of this number and kind, or the end of the text,
-- ends it
abbrev pub closing_fault : ℕ → Option LineKind → SoFar → Option Fault
closing_fault number kind s = if closes s.stage kind then gathered_fault number s.stage s.now else None

-- the words of the main diagram of a block
abbrev pub main_words : Option Block → List (List ℕ)
main_words None = []
main_words (Some b) = words_in b.diagram

-- the words of the constraint diagram of a block
abbrev pub label_words : Option Block → List (List ℕ)
label_words None = []
label_words (Some b) = words_in b.constraint

-- the first fault of a line among the faults that a line of its kind may have
abbrev pub own_fault : List (List ℕ) → SoFar → KeptLine → LineKind → Option FaultKind
own_fault helpers s line Pattern = pattern_fault (length (blocks_of s)) line.bytes
own_fault helpers s line Colon = colon_fault helpers (main_words s.now) line.bytes
own_fault helpers s line Semicolon = None
own_fault helpers s line Action = None
own_fault helpers s line Other = other_fault s.stage
  where
    other_fault : Stage → Option FaultKind
    other_fault Diagram = diagram_fault (main_words s.now) (word_of line.bytes)
    other_fault Labels = constraint_fault (main_words s.now) (label_words s.now) (word_of line.bytes)
    other_fault _ = None

-- the fault by the table of stages, or else the first fault among those that a line of its kind may have
abbrev pub table_fault : List (List ℕ) → SoFar → KeptLine → TableCell → Option FaultKind
table_fault helpers s line (Refused kind) = Some kind
table_fault helpers s line (Next stage) = own_fault helpers s line (kind_of line.bytes)

-- the first fault at this line, which stands after what has been read
unfoldable pub found : List (List ℕ) → SoFar → KeptLine → Option Fault
found helpers s line =
    if line.is_bad then at_line line.number (Some BadByte)
    else or_else (closing_fault line.number (Some (kind_of line.bytes)) s)
    (at_line line.number (table_fault helpers s line (cell_for s.stage line)))

-- the first fault at the end of the text, which counts as the line of this number
unfoldable pub found_at_end : ℕ → SoFar → Option Fault
found_at_end number s = or_else (closing_fault number None s) (at_line number (end_refused s.stage))

-- the first fault at this line, or at the end of the text if there is no line, after what has been read; it does not
-- depend on later lines
abbrev pub fault_at_place : List (List ℕ) → ℕ → SoFar → Option KeptLine → Option Fault
fault_at_place helpers end s None = found_at_end end s
fault_at_place helpers end s (Some line) = found helpers s line

-- the first fault at the k-th of these lines, counted from 0, or at the end of the text if there is no such line
abbrev pub fault_at : List (List ℕ) → ℕ → List KeptLine → ℕ → Option Fault
fault_at helpers end lines k = fault_at_place helpers end (so_far (take k lines)) (slice_get lines k)

-- the fault at the least place below n that has one
unfoldable pub least_fault : (ℕ → Option Fault) → ℕ → Option Fault
least_fault at zero = None
least_fault at (suc n) = or_else (least_fault at n) (at n)

-- the line number of the end of the text: one more than the number of lines
abbrev pub end_number : List ℕ → ℕ
end_number text = length (lines_of text) + 1

-- the first fault of a text, if these are the names of the helpers
unfoldable pub first_fault : List (List ℕ) → List ℕ → Option Fault
first_fault helpers text =
    least_fault (fault_at helpers (end_number text) (kept_lines text)) (length (kept_lines text) + 1)

-- the entries of a text in order
unfoldable pub entries : List ℕ → List Entry
entries text = map entry_of_block (blocks_of (so_far (kept_lines text)))

-- the error of a line is NoMemory, or it has this kind of fault
abbrev pub Blames : LineError → Option FaultKind → Type 0
Blames errors.NoMemory fault = Unit {0}
Blames (errors.Kind kind) fault = fault ≡ Some kind
