-- Shortcuts, and how one of them becomes longer.
use Rattle.std.proofs.Common.{◌≡◌, ℕ, ◌+◌, ◌*◌, ◌<◌, true, not, ◌&&◌, List, length, get_or, set}
use Rattle.std.proofs.Common.{replicate, sym, ap, ◌∙◌, subst, arith, inl, inr}
use Rattle.std.proofs.lemmas.Bool.{and_parts, cases_eq, not-true}
use Rattle.std.proofs.lemmas.List.{length-replicate, length-set, get_or-replicate, get_or-set_same, get_or-set_other}
use Rattle.dfa_core.specs.declared.automaton.Seen.{Seen}
use Rattle.dfa_core.specs.declared.automaton.Seen.TheVariants.{Friend}
use Rattle.dfa_core.specs.Automata.{Row, step_at}
use Rattle.dfa_core.specs.Entries.{entry_with, row_of, AreEntries}
use Rattle.dfa_core.specs.RowKinds.{kind_at}
use Rattle.dfa_core.specs.Words.{letter_number}
use Rattle.dfa_core.proofs.Entries.{row_of-entry, letter_below}
use Rattle.dfa_shortcuts.specs.Shortcuts.{is_accepting_entry, is_dead_entry, has_one_target, is_passed}
use Rattle.dfa_shortcuts.specs.Shortcuts.{IsOfRow, LeadsOn, AreShortcuts}
use Rattle.dfa_shortcuts.proofs.EntryRows.{silent_row}
use Rattle.dfa_shortcuts.proofs.PassedLetters.{LeadsOn-none, LeadsOn-passed}

-- the entries of an automaton are shortcuts that pass over no letter
pub AreShortcuts-none : (rows : List Row) (from : List ℕ) → AreEntries rows from
    → AreShortcuts rows from (replicate (length from) 0)
AreShortcuts-none rows from are = record {
  many = are.many;
  counted = length-replicate (length from) 0 ∙ are.many;
  each = λ r x low.
      let place : ℕ = 4 * r + letter_number x in
      subst (λ p. LeadsOn rows (step_at rows r x) p (get_or from place 0))
      (sym (get_or-replicate (length from) place 0 0 (omega (arith, low, are.many, letter_below x))))
      (LeadsOn-none rows (step_at rows r x) (get_or from place 0) (are.each r x low));
}

-- what leads on to an entry over so many letters does so by equal numbers
LeadsOn-same : (rows : List Row) (r many entry letters behind : ℕ) → many ≡ letters → entry ≡ behind
    → LeadsOn rows r letters behind → LeadsOn rows r many entry
LeadsOn-same rows r many entry letters behind as_many same on =
    subst (λ k. LeadsOn rows r k entry) (sym as_many) (subst (LeadsOn rows r letters) (sym same) on)

-- where one shortcut is written anew, they are shortcuts still
AreShortcuts-set : (rows : List Row) (entries passed : List ℕ) (place behind letters : ℕ)
    → AreShortcuts rows entries passed
    → ((r : ℕ) (x : Seen) → r < length rows → 4 * r + letter_number x ≡ place
    → LeadsOn rows (step_at rows r x) letters behind)
    → AreShortcuts rows (set entries place behind) (set passed place letters)
AreShortcuts-set rows entries passed place behind letters are new = record {
  many = length-set entries place behind ∙ are.many;
  counted = length-set passed place letters ∙ are.counted;
  each = λ r x low.
      let at : ℕ = 4 * r + letter_number x in
      elim (cases_eq at place) [
        | inl here ↦ LeadsOn-same rows (step_at rows r x) _ _ letters behind
            (ap (λ k. get_or (set passed place letters) k 0) here
            ∙ get_or-set_same passed place letters 0 (omega (arith, here, low, are.counted, letter_below x)))
            (ap (λ k. get_or (set entries place behind) k 0) here
            ∙ get_or-set_same entries place behind 0 (omega (arith, here, low, are.many, letter_below x)))
            (new r x low here)
        | inr other ↦ LeadsOn-same rows (step_at rows r x) _ _ (get_or passed at 0) (get_or entries at 0)
            (get_or-set_other passed place at letters 0 other) (get_or-set_other entries place at behind 0 other)
            (are.each r x low)
      ];
}

module _ (rows : List Row) (from entries passed : List ℕ) (place : ℕ) (are : AreEntries rows from)
    (low : place < length from) (inside : IsOfRow from (get_or from place 0))
    (over : is_passed from (get_or from place 0) ≡ true) (shortcuts : AreShortcuts rows entries passed) where
  -- if the row of an entry is passed over, the shortcut from that row is one for the entry too, with one letter more
  longer : (r : ℕ) (x : Seen) → r < length rows → 4 * r + letter_number x ≡ place
      → LeadsOn rows (step_at rows r x) (get_or passed (4 * row_of (get_or from place 0)) 0 + 1)
      (get_or entries (4 * row_of (get_or from place 0)) 0)
  longer r x high here =
      let entry : ℕ = get_or from place 0 in
      let next : ℕ = step_at rows r x in
      let same : entry ≡ entry_with (kind_at rows next) next =
      ap (λ k. get_or from k 0) (sym here) ∙ are.each r x high in
      let row : row_of entry ≡ next = ap row_of same ∙ row_of-entry (kind_at rows next) next in
      let parts = and_parts (not (is_accepting_entry entry) && not (is_dead_entry entry))
      (has_one_target from (row_of entry)) over in
      let silent = (and_parts (not (is_accepting_entry entry)) (not (is_dead_entry entry)) parts.0).0 in
      let within : next < length rows = omega (arith, row, inside, are.many) in
      let first : 4 * row_of entry ≡ 4 * next + letter_number Friend = omega (arith, row) in
      LeadsOn-passed rows from next are within (ap (has_one_target from) (sym row) ∙ parts.1) _ _
      (silent_row rows next (ap is_accepting_entry (sym same) ∙ not-true (is_accepting_entry entry) silent))
      (LeadsOn-same rows (step_at rows next Friend) _ _ _ _ (ap (λ k. get_or passed k 0) first)
      (ap (λ k. get_or entries k 0) first) (shortcuts.each next Friend within))

  -- so they are shortcuts where the entry's becomes longer
  pub AreShortcuts-longer : (row : ℕ) → row ≡ row_of (get_or from place 0) → AreShortcuts rows
      (set entries place (get_or entries (4 * row) 0)) (set passed place (get_or passed (4 * row) 0 + 1))
  AreShortcuts-longer row is =
      subst (λ q. AreShortcuts rows (set entries place (get_or entries (4 * q) 0))
      (set passed place (get_or passed (4 * q) 0 + 1))) (sym is)
      (AreShortcuts-set rows entries passed place _ _ shortcuts longer)
