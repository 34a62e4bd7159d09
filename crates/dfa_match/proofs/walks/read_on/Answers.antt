use Rattle.std.proofs.Common.{◌≡◌, ℕ, ◌+◌, ◌*◌, ◌<◌, ◌%◌, ◌++◌, bit_or, false, List, length, map, take}
use Rattle.std.proofs.Common.{drop, get_or, arith, ap, ◌∙◌}
use Rattle.std.specs.List.{All}
use Rattle.std.proofs.Math.ListN.{set}
use Rattle.std.proofs.lemmas.Bool.{ne_eqb}
use Rattle.std.proofs.lemmas.List.{get_or_default, length-map, length-take, drop_more, get_or_at}
use Rattle.std.proofs.lemmas.List.Elements.{AllWithin-more_set}
use Rattle.std.proofs.lemmas.List.Edits.{map_over_more}
use Rattle.std.proofs.lemmas.Nat.Bits.{bit_at_or, bit_at_lowest}
use Rattle.dfa_core.specs.declared.automaton.Seen.{Seen}
use Rattle.dfa_core.specs.Words.{letter_number}
use Rattle.dfa_shortcuts.specs.Shortcuts.{is_accepting_entry}
use Rattle.dfa_match.specs.declared.walks.Walk.{Walk}
use Rattle.dfa_match.specs.Walks.{after_letters, place_of}
use Rattle.dfa_match.proofs.walks.read_on.Goals as goal

-- a number that is joined of two is even only if both are
or_even : (a b : ℕ) → bit_or a b % 2 ≡ 0 → (a % 2 ≡ 0) × (b % 2 ≡ 0)
or_even a b even = grind (arith, bit_at_or a b 0, bit_at_lowest (bit_or a b), bit_at_lowest a, bit_at_lowest b)

-- an even entry is not that of an accepting row
even_silent : (entry : ℕ) → entry % 2 ≡ 0 → is_accepting_entry entry ≡ false
even_silent entry even = ne_eqb (entry % 4) 1 (λ same. omega (arith, same, even))

-- the next walk is as it was
next_same : (f : Walk → Walk) (xs ys : List Walk) (i : ℕ) (x : Walk) → i < length xs
    → ys ≡ map f (take i xs) ++ drop i xs → get_or ys i x ≡ get_or xs i x
next_same f xs ys i x low is = grind (arith, drop_more, get_or_at, length-map, length-take)

-- what is read past the end of a list
abbrev none : Walk
none = record { entry = 0; letters = 0; corner = 0 }

-- the next walk has read as few letters as it had at first
next_few : (f : Walk → Walk) (xs ys : List Walk) (i n : ℕ) → i < length xs → ys ≡ map f (take i xs) ++ drop i xs
    → All (λ w. w.letters < n) xs → (get_or ys i none).letters < n
next_few f xs ys i n low is read = grind (arith, next_same f xs ys i none low is)

-- a walk at this row that has passed over so many letters behind the next one
abbrev moved : Walk → ℕ → ℕ → Walk
moved w entry more = record { entry = entry; letters = w.letters + (1 + more); corner = w.corner }

-- where row and letters are those of its shortcut, it is the walk behind its next letter
moved_is : (entries passed steps : List ℕ) (letters : List Seen) (w : Walk) (place entry more : ℕ)
    → place ≡ place_of steps letters w → entry ≡ get_or entries place 0 → more ≡ get_or passed place 0
    → moved w entry more ≡ after_letters entries passed steps letters w
moved_is entries passed steps letters w place entry more at row count = grind arith

-- one walk more has read its letter
pub walks-preserved : goal.walks-preserved
walks-preserved c =
    let steps : List ℕ = c.args.steps.now in
    let letters = c.args.padded.now.letters in
    let step : Walk → Walk = after_letters c.args.entries.now c.args.passed.now steps letters in
    let index : ℕ = c.walks.walk-index in
    let walk : Walk = get_or c.walks.walks index none in
    let next : Walk = moved walk c.shortcut-entry.result.0 c.shortcut-entry.result.1 in
    let on : index < length c.walks.walks = omega (arith, c.walks.auto.walks) in
    let place : 4 * c.row_in.result + letter_number c.letter-letter.result ≡ place_of steps letters walk =
    omega (arith, c.row_in.ensures, ap letter_number c.letter-letter.ensures) in
    record {
      value = ap (set c.walks.walks index) (moved_is c.args.entries.now c.args.passed.now steps letters walk _ _ _ place
          c.shortcut-entry.ensures.entry c.shortcut-entry.ensures.passed)
          ∙ map_over_more step c.args.walks.now c.walks.walks index walk c.walks-test.true c.walks.invariant.value
          (get_or_default c.walks.walks index _ walk on);
      few = λ n read.
          let before = next_few step c.args.walks.now c.walks.walks index n c.walks-test.true
          c.walks.invariant.value read in
          AllWithin-more_set c.walks.walks index next on (λ w. w.letters < n + 256)
          (c.walks.invariant.few n read) (omega (arith, before, c.shortcut-entry.type_inv));
      silent = λ even. let parts = or_even c.walks.met c.shortcut-entry.result.0 even in
          AllWithin-more_set c.walks.walks index next on (λ w. is_accepting_entry w.entry ≡ false)
          (c.walks.invariant.silent parts.0) (even_silent c.shortcut-entry.result.0 parts.1);
    }

-- each walk has read its letter
pub returns-clause-few : goal.returns-clause-few
returns-clause-few c n read k d low =
    c.walks.invariant.few n read k d (omega arith) (omega (arith, low, c.walks.auto.walks, c.walks-test.false))
