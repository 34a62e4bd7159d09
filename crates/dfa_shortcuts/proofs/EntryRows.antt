-- The rows of entries.
use Rattle.std.proofs.Common.{◌≡◌, ℕ, ◌+◌, ◌*◌, ◌/◌, ◌%◌, ◌<◌, false, List, [], length, get_or, refl, sym, ap, ◌∙◌}
use Rattle.std.proofs.Common.{subst, arith}
use Rattle.std.proofs.lemmas.Bool.{eqb-false}
use Rattle.std.proofs.lemmas.List.{get_or_default}
use Rattle.dfa_core.specs.declared.kind.RowKind.{RowKind}
use Rattle.dfa_core.specs.declared.kind.RowKind.TheVariants.{Plain, Accepting, Dead}
use Rattle.dfa_core.specs.Automata.{Row, row_at, step_at, IsAutomaton}
use Rattle.dfa_core.specs.Entries.{entry_with, row_of, AreEntries}
use Rattle.dfa_core.specs.RowKinds.{kind_at}
use Rattle.dfa_core.specs.Words.{letter_number}
use Rattle.dfa_core.proofs.RowKinds.{kind-plain, kind-dead}
use Rattle.dfa_core.proofs.Entries.{row_of-entry, letter_with}
use Rattle.dfa_shortcuts.specs.Shortcuts.{is_accepting_entry, IsEntryOfRow, HaveRows}

-- the entry of a row is that of one of the rows
pub entry_of_row : (rows : List Row) (r entry : ℕ) → r < length rows → entry ≡ entry_with (kind_at rows r) r
    → IsEntryOfRow rows entry
entry_of_row rows r entry low is =
    let row : row_of entry ≡ r = ap row_of is ∙ row_of-entry (kind_at rows r) r in
    record {
      row = subst (λ q. q < length rows) (sym row) low;
      kind = is ∙ ap (λ q. entry_with (kind_at rows q) q) (sym row);
    }

-- a row whose entry is not that of an accepting one accepts nothing
pub silent_row : (rows : List Row) (r : ℕ) → is_accepting_entry (entry_with (kind_at rows r) r) ≡ false
    → (row_at rows r).numbers ≡ []
silent_row rows r silent = by (kind_at rows r) refl silent
  where
    by : (kind : RowKind) → kind_at rows r ≡ kind → is_accepting_entry (entry_with kind r) ≡ false
        → (row_at rows r).numbers ≡ []
    by Plain is no_entry = kind-plain rows r is
    by Accepting is no_entry = absurd (eqb-false ((4 * r + 1) % 4) 1 no_entry (omega arith))
    by Dead is no_entry = (kind-dead rows r is).silent

-- the rows of the entries of an automaton are its rows, so their four entries lie in the list
pub HaveRows-entries : (rows : List Row) (entries : List ℕ) → IsAutomaton rows → AreEntries rows entries
    → HaveRows entries
HaveRows-entries rows entries good are i d low =
    let r : ℕ = i / 4 in
    let letter = letter_with (i % 4) (omega arith) in
    let here : 4 * r + letter_number letter.0 ≡ i = omega (arith, letter.1) in
    let inside : r < length rows = omega (arith, are.many) in
    let next : ℕ = step_at rows r letter.0 in
    let row : row_of (get_or entries i d) ≡ next =
    ap row_of (get_or_default entries i d 0 low ∙ ap (λ j. get_or entries j 0) (sym here)
    ∙ are.each r letter.0 inside) ∙ row_of-entry (kind_at rows next) next in
    omega (arith, row, good.targets r letter.0 inside, are.many)
