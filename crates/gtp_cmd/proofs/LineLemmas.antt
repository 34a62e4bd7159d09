-- The spans that a line names lie in it.
use Rattle.std.proofs.Common.{◌≡◌, ℕ, ◌≤◌, List, [], ◌∷◌, Option, Some, None, IfSome, length, take, drop, eqb}
use Rattle.std.proofs.Common.{arith, length-take}
use Rattle.std.specs.List.{before_first}
use Rattle.std.specs.Option.{option_map}
use Rattle.gtp_cmd.specs.Words.{hash}
use Rattle.gtp_cmd.specs.Commands.{command_of, named, asked, called, said}
use Rattle.gtp_cmd.specs.declared.commands.CommandName.{CommandName}
use Rattle.gtp_cmd.specs.declared.commands.CommandName.TheVariants as name
use Rattle.gtp_cmd.specs.declared.commands.Command.{Command}
use Rattle.gtp_cmd.specs.declared.spans.Span.{Span}
use Rattle.gtp_cmd.specs.Spans.{IsSpanOf, spans_at, first_span, whole_span}
use Rattle.gtp_cmd.specs.Within.{IsWithinLine, SaysWithinLine}
use Rattle.gtp_cmd.proofs.SpanLemmas.{InOrder, InOrder-ends, InOrder-rest, InOrder-last, spans_from-in_order}
use Rattle.gtp_cmd.proofs.WithinLemmas.{if_some-map, if_some-any}

-- the first of spans that are in order in a line lies in it
first_span-within : (line : List ℕ) (spans : List Span) → InOrder 0 (length line) spans
    → IfSome (first_span spans) (IsSpanOf line)
first_span-within line [] within = tt
first_span-within line (span ∷ spans) within = (within.1, InOrder-ends span.to (length line) spans within.2)

-- the span of all of spans that are in order in a line lies in it
whole_span-within : (line : List ℕ) (spans : List Span) → InOrder 0 (length line) spans
    → IsSpanOf line (whole_span spans)
whole_span-within line [] within = (omega arith, omega arith)
whole_span-within line (span ∷ spans) within =
    let order = within.1 in
    let last = InOrder-last span.to (length line) spans within.2 in
    let later = last.0 in
    (omega (arith, order, later), last.1)

-- a command of the first span after its name is within the line where that span is
of_first_span : (line : List ℕ) (spans : List Span) (make : Span → Command) → InOrder 0 (length line) spans
    → ((span : Span) → IsSpanOf line span → IsWithinLine line (make span))
    → IfSome (option_map make (first_span spans)) (IsWithinLine line)
of_first_span line spans make lie keeps = grind (arith, if_some-map, first_span-within)

-- a check of a proof is within the line where its words are
of_tokens : (line : List ℕ) (s : ℕ) (words : List (List ℕ)) (spans : List Span) → InOrder 0 (length line) spans
    → IfSome (command_of name.CheckProof s words spans) (IsWithinLine line)
of_tokens line s words spans lie = grind (arith, if_some-any, whole_span-within)

-- the arguments of a command lie in the line in which the words behind its name lie: those that name spans by these,
-- and all others since they name none
command_of-within_line : (line : List ℕ) (n : CommandName) (s : ℕ) (words : List (List ℕ)) (spans : List Span)
    → InOrder 0 (length line) spans → IfSome (command_of n s words spans) (IsWithinLine line)
command_of-within_line line name.LoadSgf s words spans lie = grind (arith, of_first_span)
command_of-within_line line name.HelperOff s words spans lie = grind (arith, of_first_span)
command_of-within_line line name.HelperCalls s words spans lie = grind (arith, of_first_span)
command_of-within_line line name.HelperDrop s words spans lie = grind (arith, of_first_span)
command_of-within_line line name.CheckProof s words spans lie = of_tokens line s words spans lie
command_of-within_line line _ s words spans lie = search if_some-any

-- a command whose spans lie in the line is said by it
asked-within_line : (line : List ℕ) (id : Option ℕ) (o : Option Command) → IfSome o (IsWithinLine line)
    → SaysWithinLine line (asked id o)
asked-within_line line id None h = tt
asked-within_line line id (Some c) h = h

-- the words after a name say spans of the line
called-within_line : (line : List ℕ) (id : Option ℕ) (s : ℕ) (n : Option CommandName) (words : List (List ℕ))
    (spans : List Span) → InOrder 0 (length line) spans → SaysWithinLine line (called id s n words spans)
called-within_line line id s None words spans lie = tt
called-within_line line id s (Some n) words spans lie =
    asked-within_line line id (command_of n s words spans) (command_of-within_line line n s words spans lie)

-- the words behind the id, or of a line without one, say spans of the line
pub said-within_line : (line : List ℕ) (id : Option ℕ) (s : ℕ) (words : List (List ℕ)) (spans : List Span)
    → InOrder 0 (length line) spans → SaysWithinLine line (said id s words spans)
said-within_line line id s [] spans lie = tt
said-within_line line id s (word ∷ words) spans lie =
    called-within_line line id s (named word) words (drop 1 spans) (InOrder-rest 0 (length line) spans lie)

-- spans that end before a place end before a later one
InOrder-later : (place end later : ℕ) (spans : List Span) → end ≤ later → InOrder place end spans
    → InOrder place later spans
InOrder-later place end later [] order within = omega (arith, order, within)
InOrder-later place end later (span ∷ spans) order within =
    (within.0, within.1, InOrder-later span.to end later spans order within.2)

-- what is taken of a line is no longer than the line
take-shorter : (n : ℕ) (line : List ℕ) → length (take n line) ≤ length line
take-shorter n line = simp length-take (omega arith)

-- the words before a comment stand in the line
pub spans_before_comment : (line text : List ℕ) → text ≡ before_first (λ b. eqb b hash) line
    → InOrder 0 (length line) (spans_at text 0)
spans_before_comment line text same = grind (arith, InOrder-later 0, spans_from-in_order 0, take-shorter)
