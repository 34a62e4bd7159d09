-- The first fault is met by going over the lines once, with what the lines before come to.
use Rattle.std.proofs.Common.{◌≡◌, ℕ, zero, suc, List, [], ◌∷◌, length, take, Option, Some, None, refl, sym, ap}
use Rattle.std.proofs.Common.{add-one, arith}
use Rattle.std.specs.Prelude.{fold, slice_get, map}
use Rattle.db_lex.specs.Lines.{KeptLine, kept_lines}
use Rattle.db_rules.specs.declared.fault.Fault.{Fault}
use Rattle.db_rules.specs.Blocks.{SoFar, after_line, at_start, so_far, blocks_of}
use Rattle.db_rules.specs.Entries.{entry_of_block}
use Rattle.db_rules.specs.Faults.{or_else, found, found_at_end, fault_at_place, least_fault, first_fault, end_number}
use Rattle.db_rules.specs.Faults.{entries}

-- the first fault of these lines after what some lines come to
unfoldable pub walk : List (List ℕ) → ℕ → SoFar → List KeptLine → Option Fault
walk helpers end s [] = found_at_end end s
walk helpers end s (line ∷ lines) = or_else (found helpers s line) (walk helpers end (after_line s line) lines)

-- the fault at the k-th of these lines
at_from : List (List ℕ) → ℕ → SoFar → List KeptLine → ℕ → Option Fault
at_from helpers end s lines k = fault_at_place helpers end (fold after_line s (take k lines)) (slice_get lines k)

-- the first of three faults is the same, however they are paired
or_else-assoc : (a b c : Option Fault) → or_else (or_else a b) c ≡ or_else a (or_else b c)
or_else-assoc None b c = refl
or_else-assoc (Some a) b c = refl

-- if there is no second fault the first decides
or_else-none : (a : Option Fault) → or_else a None ≡ a
or_else-none None = refl
or_else-none (Some a) = refl

-- the first place has the least fault, or else the places behind it have it
least-shift : (at : ℕ → Option Fault) (n : ℕ)
    → least_fault at (suc n) ≡ or_else (at 0) (least_fault (λ k. at (suc k)) n)
unfolding least_fault
least-shift at zero = sym (or_else-none (at 0))
least-shift at (suc n) = grind (arith, or_else-assoc, least-shift at n)

-- below the first place there is no fault
least-zero : (at : ℕ → Option Fault) → least_fault at 0 ≡ None
unfolding least_fault
least-zero at = refl

-- going over the lines finds the fault at the least place
least-walk : (helpers : List (List ℕ)) (end : ℕ) (s : SoFar) (lines : List KeptLine)
    → least_fault (at_from helpers end s lines) (suc (length lines)) ≡ walk helpers end s lines
unfolding at_from walk
least-walk helpers end s [] = grind (arith, least-shift, at_from, least-zero, or_else-none)
least-walk helpers end s (line ∷ lines) =
    grind (arith, least-shift, at_from, least-walk helpers end (after_line s line) lines)

-- going over the lines finds the first fault
pub first_fault-walk : (helpers : List (List ℕ)) (text : List ℕ)
    → first_fault helpers text ≡ walk helpers (end_number text) at_start (kept_lines text)
unfolding first_fault so_far at_from
first_fault-walk helpers text =
    rw (add-one (length (kept_lines text))) (least-walk helpers (end_number text) at_start (kept_lines text))

-- what is left of a text after what its lines so far come to
pub record Reaches (helpers : List (List ℕ)) (text : List ℕ) (s : SoFar) (left : List KeptLine) : Type 0 where
  pub fault : walk helpers (end_number text) s left ≡ first_fault helpers text
  pub all : fold after_line s left ≡ so_far (kept_lines text)

-- before the first line all lines are left
pub Reaches-start : (helpers : List (List ℕ)) (text : List ℕ) → Reaches helpers text at_start (kept_lines text)
unfolding so_far
Reaches-start helpers text = record { fault = sym (first_fault-walk helpers text); all = refl }

-- a line without a fault
pub Reaches-step : (helpers : List (List ℕ)) (text : List ℕ) (s : SoFar) (line : KeptLine) (left : List KeptLine)
    → Reaches helpers text s (line ∷ left) → found helpers s line ≡ None → Reaches helpers text (after_line s line) left
unfolding walk
Reaches-step helpers text s line left r none = grind arith

-- a line with a fault is the first that has one
pub Reaches-fault : (helpers : List (List ℕ)) (text : List ℕ) (s : SoFar) (line : KeptLine) (left : List KeptLine)
    (f : Fault) → Reaches helpers text s (line ∷ left) → found helpers s line ≡ Some f
    → first_fault helpers text ≡ Some f
unfolding walk
Reaches-fault helpers text s line left f r some = grind arith

-- if no line is left, the first fault of the text is the one at its end
pub Reaches-end : (helpers : List (List ℕ)) (text : List ℕ) (s : SoFar) → Reaches helpers text s []
    → first_fault helpers text ≡ found_at_end (end_number text) s
unfolding walk
Reaches-end helpers text s r = sym r.fault

-- if no line is left, the entries are those of the blocks so far
pub Reaches-entries : (helpers : List (List ℕ)) (text : List ℕ) (s : SoFar) → Reaches helpers text s []
    → entries text ≡ map entry_of_block (blocks_of s)
unfolding entries
Reaches-entries helpers text s r = ap (λ t. map entry_of_block (blocks_of t)) (sym r.all)
