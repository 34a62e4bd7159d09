-- Letters that are passed over, one after the other.
use Rattle.std.proofs.Common.{◌≡◌, ℕ, ◌+◌, ◌*◌, ◌<◌, ◌&&◌, Bool, true, eqb, List, [], ◌∷◌, length}
use Rattle.std.proofs.Common.{get_or, replicate, sym, ap, ◌∙◌, arith}
use Rattle.std.proofs.lemmas.Bool.{and_parts, eqb-true}
use Rattle.std.proofs.lemmas.List.{length-replicate}
use Rattle.dfa_core.specs.declared.automaton.Seen.{Seen}
use Rattle.dfa_core.specs.declared.automaton.Seen.TheVariants.{Friend, Enemy, Empty, Off}
use Rattle.dfa_core.specs.Automata.{Row, row_at, step_at, reach_from, IsAutomaton}
use Rattle.dfa_core.specs.Entries.{entry_with, row_of, AreEntries}
use Rattle.dfa_core.specs.RowKinds.{kind_at}
use Rattle.dfa_core.specs.Words.{Word, letter_number}
use Rattle.dfa_core.proofs.Walks.{reach_from-within}
use Rattle.dfa_core.proofs.Entries.{row_of-entry}
use Rattle.dfa_shortcuts.specs.Shortcuts.{has_one_target, IsEntryOfRow, LeadsOn}
use Rattle.dfa_shortcuts.proofs.EntryRows.{entry_of_row}

-- the entries of a row with one target are one
one_target : (entries : List ℕ) (r : ℕ) → has_one_target entries r ≡ true → (x : Seen)
    → get_or entries (4 * r + letter_number x) 0 ≡ get_or entries (4 * r) 0
one_target entries r one x = by x
  where
    is_first : ℕ → Bool
    is_first k = eqb (get_or entries (4 * r + k) 0) (get_or entries (4 * r) 0)

    by : (x : Seen) → get_or entries (4 * r + letter_number x) 0 ≡ get_or entries (4 * r) 0
    by Friend = ap (λ k. get_or entries k 0) (let same : 4 * r + 0 ≡ 4 * r = omega arith in same)
    by Enemy = eqb-true _ _ (and_parts (is_first 1) (is_first 2) (and_parts (is_first 1 && is_first 2) (is_first 3)
        one).0).0
    by Empty = eqb-true _ _ (and_parts (is_first 1) (is_first 2) (and_parts (is_first 1 && is_first 2) (is_first 3)
        one).0).1
    by Off = eqb-true _ _ (and_parts (is_first 1 && is_first 2) (is_first 3) one).1

-- no letters lead on to the entry of the row itself
pub LeadsOn-none : (rows : List Row) (r entry : ℕ) → entry ≡ entry_with (kind_at rows r) r → LeadsOn rows r 0 entry
LeadsOn-none rows r entry is = record { to = to; silent = λ w short. absurd (omega (arith, short)) }
  where
    to : (w : Word) → length w ≡ 0 → entry ≡ entry_with (kind_at rows (reach_from rows r w)) (reach_from rows r w)
    to [] none = is
    to (x ∷ w) none = absurd (omega (arith, none))

module _ (rows : List Row) (entries : List ℕ) (r : ℕ) (are : AreEntries rows entries) (low : r < length rows)
    (one : has_one_target entries r ≡ true) where
  -- each letter leads from a row with one target to the row to which the first letter leads
  one_step : (x : Seen) → step_at rows r x ≡ step_at rows r Friend
  one_step x =
      sym (row_of-entry (kind_at rows (step_at rows r x)) (step_at rows r x))
      ∙ ap row_of (sym (are.each r x low) ∙ one_target entries r one x ∙ sym (one_target entries r one Friend)
      ∙ are.each r Friend low)
      ∙ row_of-entry (kind_at rows (step_at rows r Friend)) (step_at rows r Friend)

  -- from a row that accepts nothing and has one target, one letter more leads on to where letters lead from the target
  pub LeadsOn-passed : (many entry : ℕ) → (row_at rows r).numbers ≡ [] → LeadsOn rows (step_at rows r Friend) many entry
      → LeadsOn rows r (many + 1) entry
  LeadsOn-passed many entry quiet on = record { to = to; silent = silent }
    where
      to : (w : Word) → length w ≡ many + 1
          → entry ≡ entry_with (kind_at rows (reach_from rows r w)) (reach_from rows r w)
      to [] long = absurd (omega (arith, long))
      to (x ∷ w) long = on.to w (omega (arith, long))
          ∙ ap (λ q. entry_with (kind_at rows (reach_from rows q w)) (reach_from rows q w)) (sym (one_step x))

      silent : (w : Word) → length w < many + 1 → (row_at rows (reach_from rows r w)).numbers ≡ []
      silent [] short = quiet
      silent (x ∷ w) short = ap (λ q. (row_at rows (reach_from rows q w)).numbers) (one_step x)
          ∙ on.silent w (omega (arith, short))

-- what letters lead on to is the entry of one of the rows
pub LeadsOn-within : (rows : List Row) (r many entry : ℕ) → IsAutomaton rows → r < length rows
    → LeadsOn rows r many entry → IsEntryOfRow rows entry
LeadsOn-within rows r many entry good low on =
    let w : Word = replicate many Friend in
    entry_of_row rows (reach_from rows r w) entry (reach_from-within rows r w good low)
    (on.to w (length-replicate many Friend))
