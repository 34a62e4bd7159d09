-- A text without a fault has at most as many entries as a database may have.
use Rattle.std.proofs.Common.{◌≡◌, ℕ, ◌+◌, ◌≤◌, ◌<◌, Bool, true, false, List, [], ◌∷◌, ◌++◌, length, map}
use Rattle.std.proofs.Common.{Option, Some, None, Result, Ok, Err, IfOk, refl, sym, ◌∙◌, arith}
use Rattle.std.proofs.Common.{length-append}
use Rattle.std.proofs.lemmas.Bool.Decides.{nat_tests}
use Rattle.std.proofs.lemmas.List.{length-map}
use Rattle.std.specs.Prelude.{fold}
use Rattle.std.specs.Option.{option_map, option_to_list}
use Rattle.db_lex.specs.declared.line.LineKind.{LineKind}
use Rattle.db_lex.specs.declared.line.LineKind.TheVariants.{Pattern, Colon, Semicolon, Action, Other}
use Rattle.db_lex.specs.Lines.{KeptLine, kind_of}
use Rattle.db_rules.specs.declared.fault.Fault.{Fault}
use Rattle.db_rules.specs.declared.kind.FaultKind.{FaultKind}
use Rattle.db_rules.specs.declared.stage.TableCell.TheVariants.{Next}
use Rattle.db_rules.specs.declared.stage.Stage.{Stage}
use Rattle.db_rules.specs.declared.stage.Stage.TheVariants.{Start, Diagram, Labels, Expression, Actions}
use Rattle.db_rules.specs.Blocks.{Block, SoFar, blocks_of, placed, cell_for, after_line}
use Rattle.db_rules.specs.Blocks.{so_far}
use Rattle.db_rules.specs.Entries.{Entry}
use Rattle.db_rules.specs.Kinds.{first_of}
use Rattle.db_rules.specs.Faults.{or_else, at_line, pattern_fault, own_fault, found}
use Rattle.db_rules.specs.Faults.{first_fault, entries}
use Rattle.db_rules.proofs.Walk.{walk, first_fault-walk}
use Rattle.session.specs.PatternFiles.{most_patterns}

-- there are few blocks
abbrev Few : SoFar → Type 0
Few s = length (blocks_of s) ≤ most_patterns

-- the first of two tests fails where neither passes
first-fails : (a b : Bool) (k l : FaultKind) → first_of ((a, k) ∷ (b, l) ∷ []) ≡ None → a ≡ false
first-fails true b k l none = absurd cc
first-fails false b k l none = refl

-- a Pattern line without a fault stands behind fewer entries
pattern_fault-few : (n : ℕ) (line : List ℕ) → pattern_fault n line ≡ None → n < most_patterns
unfolding pattern_fault
pattern_fault-few n line none = grind (arith, first-fails, nat_tests)

-- a change of a block makes no other one
length-changed : (done : List Block) (f : Block → Block) (now : Option Block) → length
    (done ++ option_to_list (option_map f now)) ≡ length (done ++ option_to_list now)
length-changed done f None = refl
length-changed done f (Some b) = length-append done (f b ∷ []) ∙ sym (length-append done (b ∷ []))

-- another line keeps blocks few, in every stage
other-few : (s : SoFar) (line : KeptLine) (next : Stage) → Few s → Few (placed line next s Other)
other-few s line Start few = few
other-few s line Diagram few = grind (arith, length-changed)
other-few s line Labels few = grind (arith, length-changed)
other-few s line Expression few = few
other-few s line Actions few = few

-- a line without a fault keeps blocks few, by its kind
placed-few : (helpers : List (List ℕ)) (s : SoFar) (line : KeptLine) (next : Stage) (kind : LineKind) → Few s
    → own_fault helpers s line kind ≡ None → Few (placed line next s kind)
placed-few helpers s line next Pattern few none = grind (arith, length-append, pattern_fault-few)
placed-few helpers s line next Colon few none = grind (arith, length-changed)
placed-few helpers s line next Semicolon few none = grind (arith, length-changed)
placed-few helpers s line next Action few none = grind (arith, length-changed)
placed-few helpers s line next Other few none = other-few s line next few

-- what there is not has no line
at_line-none : (number : ℕ) (kind : Option FaultKind) → at_line number kind ≡ None → kind ≡ None
at_line-none number None none = refl
at_line-none number (Some k) none = absurd cc

-- a line without a fault is one that the table takes, and has none of its own
found-own : (helpers : List (List ℕ)) (s : SoFar) (line : KeptLine) → found helpers s line ≡ None
    → (next : Stage) × (cell_for s.stage line ≡ Next next) × (own_fault helpers s line (kind_of line.bytes) ≡ None)
unfolding found
found-own helpers s line none = grind (arith, at_line-none)

-- a line without a fault keeps blocks few
after_line-few : (helpers : List (List ℕ)) (s : SoFar) (line : KeptLine) → Few s → found helpers s line ≡ None → Few
    (after_line s line)
unfolding after_line
after_line-few helpers s line few none = grind (arith, found-own, placed-few)

-- of two faults there is neither
neither : (a b : Option Fault) → or_else a b ≡ None → (a ≡ None) × (b ≡ None)
neither None b none = (refl, none)
neither (Some a) b none = absurd cc

-- lines without a fault keep blocks few
walk-few : (helpers : List (List ℕ)) (end : ℕ) (s : SoFar) (lines : List KeptLine) → Few s
    → walk helpers end s lines ≡ None → Few (fold after_line s lines)
unfolding walk
walk-few helpers end s [] few none = few
walk-few helpers end s (line ∷ lines) few none =
    grind (arith, neither, walk, walk-few helpers end (after_line s line) lines, after_line-few)

-- a text without a fault has few entries
pub few_entries : (helpers : List (List ℕ)) (text : List ℕ) → first_fault helpers text ≡ None → length
    (entries text) ≤ most_patterns
unfolding entries so_far
few_entries helpers text none = grind (arith, walk-few, first_fault-walk, length-map)

-- what was read of a text without a fault has few patterns
pub few_read : {V A E : Type 0} (items : V → List A) (f : A → Entry) (result : Result V E)
    (known : List (List ℕ)) (text : List ℕ)
    → IfOk result (λ v. (first_fault known text ≡ None) × (map f (items v) ≡ entries text)) → IfOk result
    (λ v. length (items v) ≤ most_patterns)
few_read items f (Ok v) known text read = grind (arith, length-map, few_entries)
few_read items f (Err e) known text read = tt
