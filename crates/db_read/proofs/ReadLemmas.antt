-- What is handed out for a line, and what is found there and at the end.
use Rattle.std.proofs.Common.{◌≡◌, ℕ, ◌+◌, Bool, true, false, List, ◌∷◌, length, Some, None, Result, Ok, Err, refl, sym}
use Rattle.std.proofs.Common.{◌∙◌, arith}
use Rattle.std.specs.Prelude.{if◌then◌else◌}
use Rattle.db_lex.specs.declared.line.BadByte.{BadByte}
use Rattle.db_lex.specs.declared.line.Line.{Line}
use Rattle.db_lex.specs.Lines.{KeptLine, kind_of, shown}
use Rattle.db_read.specs.declared.error.DbError.{DbError}
use Rattle.db_read.specs.declared.error.DbError.TheVariants as errors
use Rattle.db_rules.specs.declared.fault.Fault.{Fault}
use Rattle.db_read.specs.declared.reader.Reader.{Reader}
use Rattle.db_rules.specs.declared.kind.FaultKind.TheVariants as kinds
use Rattle.db_rules.specs.Kinds.{number_of}
use Rattle.db_rules.specs.Blocks.{SoFar, after_line, end_refused}
use Rattle.db_rules.specs.Faults.{at_line, closing_fault, found, found_at_end, first_fault}
use Rattle.db_read.specs.Reading.{BlamesAt, Shows}
use Rattle.db_rules.proofs.Walk.{Reaches-step, Reaches-fault}
use Rattle.db_read.proofs.ReaderProgress.{Walked}

-- what is handed out for a line with a bad byte
abbrev bad_of : KeptLine → BadByte
bad_of k = record { number = k.number }

-- what is handed out for a line without one
abbrev line_of : KeptLine → Line
line_of k = record { number = k.number; kind = kind_of k.bytes; from = k.from; to = k.from + length k.bytes }

-- what is handed out, by the test of its bytes
abbrev by_test : Bool → KeptLine → Result Line BadByte
by_test bad k = if bad then Err (bad_of k) else Ok (line_of k)

-- what is handed out for a line is told by the test of its bytes
shown-by_test : (k : KeptLine) → shown k ≡ by_test k.is_bad k
unfolding shown
shown-by_test k = refl

-- a line that is handed out as bad
pub record IsBadLine (k : KeptLine) (b : BadByte) : Type 0 where
  pub bad : k.is_bad ≡ true
  pub number : k.number ≡ b.number

-- a line that is handed out as bad by the test of its bytes has a bad byte, and its number is told
bad_by_test : (bad : Bool) (k : KeptLine) (b : BadByte) → k.is_bad ≡ bad → by_test bad k ≡ Err b → IsBadLine k b
bad_by_test true k b t h = grind arith
bad_by_test false k b t h = absurd cc

-- a line that is handed out as bad has a bad byte, and its number is told
pub bad_line : (k : KeptLine) (b : BadByte) → shown k ≡ Err b → IsBadLine k b
bad_line k b e = bad_by_test k.is_bad k b refl (sym (shown-by_test k) ∙ e)

-- a line that is handed out whole
pub record IsFineLine (k : KeptLine) (l : Line) : Type 0 where
  pub fine : k.is_bad ≡ false
  pub number : k.number ≡ l.number
  pub kind : l.kind ≡ kind_of k.bytes

-- a line that is handed out whole by the test of its bytes has no bad byte, and its number and kind are told
fine_by_test : (bad : Bool) (k : KeptLine) (l : Line) → k.is_bad ≡ bad → by_test bad k ≡ Ok l → IsFineLine k l
fine_by_test true k l t h = absurd cc
fine_by_test false k l t h = grind arith

-- a line that is handed out whole has no bad byte, and its number and kind are told
pub fine_line : (k : KeptLine) (l : Line) → shown k ≡ Ok l → IsFineLine k l
fine_line k l e = fine_by_test k.is_bad k l refl (sym (shown-by_test k) ∙ e)

-- at a line that is handed out as bad the bad byte is the fault that is found
pub found_bad : (helpers : List (List ℕ)) (s : SoFar) (k : KeptLine) (b : BadByte) → IsBadLine k b
    → found helpers s k ≡ Some (record { line = b.number; kind = number_of kinds.BadByte })
unfolding found
found_bad helpers s k b h = rw (h.bad, h.number) refl

-- a fault of what the end closes is found at the end
pub end_closing : (number : ℕ) (s : SoFar) (f : Fault) → closing_fault number None s ≡ Some f
    → found_at_end number s ≡ Some f
unfolding found_at_end
end_closing number s f e = rw e refl

-- where the end closes nothing that is at fault, the table tells what is found there
pub end_table : (number : ℕ) (s : SoFar) → closing_fault number None s ≡ None
    → found_at_end number s ≡ at_line number (end_refused s.stage)
unfolding found_at_end
end_table number s e = rw e refl

-- one line more was read
pub Walked-step : (helpers : List (List ℕ)) (text : List ℕ) (r n : Reader) (k : KeptLine) (left : List KeptLine)
    (w : Walked helpers text r (k ∷ left))
    → (found helpers w.so_far k ≡ None) × Shows n (after_line w.so_far k) → Walked helpers text n left
Walked-step helpers text r n k left w read =
    record {
      so_far = after_line w.so_far k;
      shown = read.1;
      reaches =
          Reaches-step helpers text w.so_far k left w.reaches read.0;
    }

-- a fault that is found at the next line is the first of the text
pub Walked-fault : (helpers : List (List ℕ)) (text : List ℕ) (r : Reader) (k : KeptLine) (left : List KeptLine)
    (f : Fault) (w : Walked helpers text r (k ∷ left))
    → found helpers w.so_far k ≡ Some f → first_fault helpers text ≡ Some f
Walked-fault helpers text r k left f w some = Reaches-fault helpers text w.so_far k left f w.reaches some

-- an error that tells what is found at the next line tells the first fault of the text
pub Walked-blames : (helpers : List (List ℕ)) (text : List ℕ) (r : Reader) (k : KeptLine) (left : List KeptLine)
    (e : DbError) (w : Walked helpers text r (k ∷ left))
    → BlamesAt e (found helpers w.so_far k) → BlamesAt e (first_fault helpers text)
Walked-blames helpers text r k left errors.NoMemory w blames = tt
Walked-blames helpers text r k left (errors.Fault line kind) w blames =
    Walked-fault helpers text r k left (record { line = line; kind = kind }) w blames
