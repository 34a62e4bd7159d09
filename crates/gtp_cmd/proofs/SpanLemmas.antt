-- Where the words of a text stand, byte by byte.
use Rattle.std.proofs.Common.{◌≡◌, ℕ, ◌+◌, ◌<◌, ◌≤◌, Bool, true, false, cond, not, List, [], ◌∷◌, length, drop, get_or}
use Rattle.std.proofs.Common.{refl, subst, ap, arith}
use Rattle.std.proofs.lemmas.List.{drop_more, drop_all}
use Rattle.gtp_cmd.specs.Words.{is_kept}
use Rattle.vertices.specs.RawWords.{is_parting, is_skipped}
use Rattle.gtp_cmd.specs.Spans.{goes_on, span_between, spans_with, spans_from, spans_at, end_with, last_end, whole_span}
use Rattle.gtp_cmd.specs.declared.spans.Span.{Span}

-- a byte that is skipped stands in no word
from-skipped : (place b : ℕ) (bs : List ℕ) → is_skipped b ≡ true
    → spans_from place (b ∷ bs) ≡ spans_from (place + 1) bs
from-skipped place b bs skipped = grind arith

-- another byte begins a word
from-word : (place b : ℕ) (bs : List ℕ) → is_skipped b ≡ false
    → spans_from place (b ∷ bs) ≡ spans_with place (place + 1) (goes_on bs) (spans_from (place + 1) bs)
from-word place b bs word = grind arith

-- from a byte that is skipped on stand the words that stand behind it
pub at-skipped : (text : List ℕ) (place : ℕ) → place < length text → is_skipped (get_or text place 0) ≡ true
    → spans_at text place ≡ spans_at text (place + 1)
at-skipped text place inside skipped = grind (arith, drop_more, from-skipped)

-- from another byte on stands a word that begins with it
pub at-word : (text : List ℕ) (place : ℕ) → place < length text → is_skipped (get_or text place 0) ≡ false
    → spans_at text place
    ≡ spans_with place (place + 1) (goes_on (drop (place + 1) text)) (spans_at text (place + 1))
at-word text place inside word = grind (arith, drop_more, from-word)

-- the word that began at a place and has its last byte so far before an end, read up to another place: what is known
-- of where words stand
pub record ReadsWord (text : List ℕ) (start end place : ℕ) : Type 0 where
  pub spans : spans_at text start ≡ spans_with start end (goes_on (drop place text)) (spans_at text place)
  pub behind : spans_at text end ≡ spans_at text place
  pub order : start < end
  pub reach : end ≤ place

-- a word begins with its first byte
pub ReadsWord-first : (text : List ℕ) (start : ℕ) → start < length text → is_skipped (get_or text start 0) ≡ false
    → ReadsWord text start (start + 1) (start + 1)
ReadsWord-first text start inside word = grind (arith, at-word)

-- whether a word goes on at a byte that parts words
goes_on-parting : (b : ℕ) (bs : List ℕ) → is_parting b ≡ true → goes_on (b ∷ bs) ≡ false
goes_on-parting b bs parts = ap (λ t. cond t false (cond (is_kept b) true (goes_on bs))) parts

-- at another byte that is kept it goes on
goes_on-kept : (b : ℕ) (bs : List ℕ) → is_parting b ≡ false → is_kept b ≡ true → goes_on (b ∷ bs) ≡ true
goes_on-kept b bs other keeps = grind arith

-- a byte that is dropped changes nothing
goes_on-dropped : (b : ℕ) (bs : List ℕ) → is_parting b ≡ false → is_kept b ≡ false → goes_on (b ∷ bs) ≡ goes_on bs
goes_on-dropped b bs other drops = grind arith

-- a word that goes on with a byte ends where that byte's word ends
spans_with-twice : (start end place next : ℕ) (on : Bool) (spans : List Span)
    → spans_with start end true (spans_with place next on spans) ≡ spans_with start next on spans
spans_with-twice start end place next false spans = refl
spans_with-twice start end place next true [] = refl
spans_with-twice start end place next true (span ∷ spans) = refl

-- the skip test of a byte that is kept and parts no words
not-skipped : (b : ℕ) → is_parting b ≡ false → is_kept b ≡ true → is_skipped b ≡ false
not-skipped b other keeps = rw (keeps, other) refl

-- the skip test of a byte that is dropped
dropped-skipped : (b : ℕ) → is_kept b ≡ false → is_skipped b ≡ true
dropped-skipped b drops = rw drops refl

-- where the word goes on, and the words behind it
goes_on-at : (text : List ℕ) (place : ℕ) → place < length text
    → goes_on (drop place text) ≡ goes_on (get_or text place 0 ∷ drop (place + 1) text)
goes_on-at text place inside = ap goes_on (drop_more text place 0 inside)

-- a kept byte that parts no words is the word's last so far
pub ReadsWord-kept : (text : List ℕ) (start end place : ℕ) → place < length text
    → is_parting (get_or text place 0) ≡ false → is_kept (get_or text place 0) ≡ true
    → ReadsWord text start end place → ReadsWord text start (place + 1) (place + 1)
ReadsWord-kept text start end place inside other keeps so_far =
    grind (arith, goes_on-at, goes_on-kept, at-word, not-skipped, spans_with-twice)

-- a byte that is dropped is passed over
pub ReadsWord-dropped : (text : List ℕ) (start end place : ℕ) → place < length text
    → is_parting (get_or text place 0) ≡ false → is_kept (get_or text place 0) ≡ false
    → ReadsWord text start end place → ReadsWord text start end (place + 1)
ReadsWord-dropped text start end place inside other drops so_far =
    grind (arith, goes_on-at, goes_on-dropped, at-skipped, dropped-skipped)

-- a byte that parts no words is read
pub ReadsWord-step : (text : List ℕ) (start end place : ℕ) → place < length text
    → is_parting (get_or text place 0) ≡ false → ReadsWord text start end place
    → ReadsWord text start (end_with (is_kept (get_or text place 0)) place end) (place + 1)
ReadsWord-step text start end place inside other so_far =
    grind (arith, ReadsWord-kept text start end place inside other, ReadsWord-dropped text start end place inside other)

-- the word ends before a byte that parts words
pub ReadsWord-parting : (text : List ℕ) (start end place : ℕ) → place < length text
    → is_parting (get_or text place 0) ≡ true → ReadsWord text start end place
    → spans_at text start ≡ span_between start end ∷ spans_at text end
ReadsWord-parting text start end place inside parts so_far = grind (arith, goes_on-at, goes_on-parting)

-- the word ends with the text
pub ReadsWord-end : (text : List ℕ) (start end place : ℕ) → length text ≤ place → ReadsWord text start end place
    → spans_at text start ≡ span_between start end ∷ spans_at text end
ReadsWord-end text start end place past so_far = grind (arith, drop_all)

-- behind a text stand no words
pub at-end : (text : List ℕ) (place : ℕ) → length text ≤ place → spans_at text place ≡ []
at-end text place past = ap (spans_from place) (drop_all place text past)

-- the spans follow one another between two places
abbrev pub InOrder : ℕ → ℕ → List Span → Type 0
InOrder place end [] = place ≤ end
InOrder place end (span ∷ spans) = (place ≤ span.from) × (span.from ≤ span.to) × InOrder span.to end spans

-- spans that follow a place follow an earlier one
pub InOrder-earlier : (place later end : ℕ) (spans : List Span) → place ≤ later → InOrder later end spans
    → InOrder place end spans
InOrder-earlier place later end [] order within = omega (arith, order, within)
InOrder-earlier place later end (span ∷ spans) order within = grind arith

-- the first place is not behind the last
pub InOrder-ends : (place end : ℕ) (spans : List Span) → InOrder place end spans → place ≤ end
InOrder-ends place end [] within = within
InOrder-ends place end (span ∷ spans) within = grind (arith, InOrder-ends span.to end spans within.2)

-- the spans behind the first are in order too
pub InOrder-rest : (place end : ℕ) (spans : List Span) → InOrder place end spans → InOrder place end (drop 1 spans)
InOrder-rest place end [] within = within
InOrder-rest place end (span ∷ spans) within = grind (arith, InOrder-earlier)

-- one more byte in front of them leaves spans in order
InOrder-with : (place end : ℕ) (on : Bool) (spans : List Span) → InOrder (place + 1) end spans
    → InOrder place end (spans_with place (place + 1) on spans)
InOrder-with place end false spans within = (omega arith, omega arith, within)
InOrder-with place end true [] within = (omega arith, omega arith, within)
InOrder-with place end true (span ∷ spans) within = grind arith

-- the words of a text stand in it one behind another
pub spans_from-in_order : (place : ℕ) (text : List ℕ) → InOrder place (place + length text) (spans_from place text)
spans_from-in_order place [] = omega arith
spans_from-in_order place (b ∷ bs) =
    let rest : InOrder (place + 1) (place + length (b ∷ bs)) (spans_from (place + 1) bs) =
    subst (λ (end : ℕ). InOrder (place + 1) end (spans_from (place + 1) bs)) (omega arith)
    (spans_from-in_order (place + 1) bs) in
    elim (is_skipped b)
    as (λ t. InOrder place (place + length (b ∷ bs)) (cond t (spans_from (place + 1) bs)
    (spans_with place (place + 1) (goes_on bs) (spans_from (place + 1) bs)))) [
      | true ↦ InOrder-earlier place (place + 1) (place + length (b ∷ bs)) (spans_from (place + 1) bs) (omega arith)
          rest
      | false ↦ InOrder-with place (place + length (b ∷ bs)) (goes_on bs) (spans_from (place + 1) bs) rest
    ]

-- the last word ends where it does, whether or not its first byte is told apart
last_end-with : (end place next : ℕ) (on : Bool) (spans : List Span)
    → last_end end (spans_with place next on spans) ≡ last_end next spans
last_end-with end place next false spans = refl
last_end-with end place next true [] = refl
last_end-with end place next true (span ∷ spans) = refl

-- the span of words that begin with a byte
whole_span-with : (start end : ℕ) (on : Bool) (spans : List Span)
    → whole_span (spans_with start end on spans) ≡ span_between start (last_end end spans)
whole_span-with start end false spans = refl
whole_span-with start end true [] = refl
whole_span-with start end true (span ∷ spans) = refl

-- the words that begin at a place, of which the last so far ends here, read up to another place: what is known of them
pub record ReadsWords (text : List ℕ) (start end place : ℕ) : Type 0 where
  pub span : whole_span (spans_at text start) ≡ span_between start (last_end end (spans_at text place))
  pub order : start < end
  pub reach : end ≤ place

-- words begin with the first byte of the first
pub ReadsWords-first : (text : List ℕ) (start : ℕ) → start < length text → is_skipped (get_or text start 0) ≡ false
    → ReadsWords text start (start + 1) (start + 1)
ReadsWords-first text start inside word = grind (arith, at-word, whole_span-with)

-- a byte of no word is read
ReadsWords-skipped : (text : List ℕ) (start end place : ℕ) → place < length text
    → is_skipped (get_or text place 0) ≡ true → ReadsWords text start end place
    → ReadsWords text start end (place + 1)
ReadsWords-skipped text start end place inside skipped so_far = grind (arith, at-skipped)

-- a byte of a word is read, and is their last
ReadsWords-more : (text : List ℕ) (start end place : ℕ) → place < length text
    → is_skipped (get_or text place 0) ≡ false → ReadsWords text start end place
    → ReadsWords text start (place + 1) (place + 1)
ReadsWords-more text start end place inside word so_far = grind (arith, at-word, last_end-with)

-- one more byte is read, and is the last of a word or none of one
pub ReadsWords-step : (text : List ℕ) (start end place : ℕ) → place < length text → ReadsWords text start end place
    → ReadsWords text start (end_with (not (is_skipped (get_or text place 0))) place end) (place + 1)
ReadsWords-step text start end place inside so_far = grind (arith, ReadsWords-skipped, ReadsWords-more)

-- behind the text no word ends
pub ReadsWords-end : (text : List ℕ) (start end place : ℕ) → length text ≤ place → ReadsWords text start end place
    → whole_span (spans_at text start) ≡ span_between start end
ReadsWords-end text start end place past so_far = grind (arith, at-end)

-- the last of words in order ends before the end
pub InOrder-last : (place end : ℕ) (spans : List Span) → InOrder place end spans
    → (place ≤ last_end place spans) × (last_end place spans ≤ end)
InOrder-last place end [] within = (omega arith, within)
InOrder-last place end (span ∷ spans) within = grind (arith, InOrder-last span.to end spans within.2)
