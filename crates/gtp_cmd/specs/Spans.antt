-- Parts of a line, given by where they begin and end, and where the words of a line stand.
use Rattle.std.specs.Prelude.{ℕ, ◌+◌, ◌-◌, ◌≤◌, Bool, true, false, List, [], ◌∷◌, length, take, drop, Option, None}
use Rattle.std.specs.Prelude.{Some, if◌then◌else◌}
use Rattle.std.specs.List.{before_first}
use Rattle.std.specs.Prelude.{◌==◌}
use Rattle.gtp_cmd.specs.Words.{hash, is_kept}
use Rattle.vertices.specs.RawWords.{is_parting, is_skipped}
use Rattle.gtp_cmd.specs.declared.spans.Span.{Span}

-- the bytes of a line that a span stands for: from its first index to just before its second
abbrev pub spanned : List ℕ → Span → List ℕ
spanned line span = take (span.to - span.from) (drop span.from line)

-- the span begins no later than it ends, and ends within the line
abbrev pub IsSpanOf : List ℕ → Span → Type 0
IsSpanOf line span = (span.from ≤ span.to) × (span.to ≤ length line)

-- the word goes on: a kept byte follows, and no byte that separates words stands before it
abbrev pub goes_on : List ℕ → Bool
goes_on [] = false
goes_on (b ∷ bs) = if is_parting b then false else if is_kept b then true else goes_on bs

-- the span from one place to just before another
abbrev pub span_between : ℕ → ℕ → Span
span_between from to = record { from = from; to = to }

-- the spans of words with one more byte in front of them: the byte begins the first of these words if that word goes
-- on, and is a word of its own if not
abbrev pub spans_with : ℕ → ℕ → Bool → List Span → List Span
spans_with from to false spans = span_between from to ∷ spans
spans_with from to true [] = span_between from to ∷ []
spans_with from to true (span ∷ spans) = span_between from span.to ∷ spans

-- where the words of a text stand, each from its first byte to its last, if the text begins at this place of the line
abbrev pub spans_from : ℕ → List ℕ → List Span
spans_from place [] = []
spans_from place (b ∷ bs) =
    if is_skipped b then spans_from (place + 1) bs
    else spans_with place (place + 1) (goes_on bs) (spans_from (place + 1) bs)

-- where the words of a text stand, from this place on
abbrev pub spans_at : List ℕ → ℕ → List Span
spans_at text place = spans_from place (drop place text)

-- where the words of a line stand; its comment has no words
unfoldable pub spans_of : List ℕ → List Span
spans_of line = spans_at (before_first (λ b. b == hash) line) 0

-- the end of a word after one more byte at this place: just behind the byte if the byte belongs to the word, else as
-- before
abbrev pub end_with : Bool → ℕ → ℕ → ℕ
end_with keeps place end = if keeps then place + 1 else end

-- where the first word stands, if there is one
abbrev pub first_span : List Span → Option Span
first_span [] = None
first_span (span ∷ spans) = Some span

-- where the last of some words ends: the last of these spans ends there, or, if there are no spans, the word before
-- them
abbrev pub last_end : ℕ → List Span → ℕ
last_end end [] = end
last_end end (span ∷ spans) = last_end span.to spans

-- the span of all these words, from the first byte of the first word to the last byte of the last; 0 and 0 if there are
-- none
abbrev pub whole_span : List Span → Span
whole_span [] = span_between 0 0
whole_span (span ∷ spans) = span_between span.from (last_end span.to spans)
