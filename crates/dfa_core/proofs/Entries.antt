-- Entries: rows beside their kinds.
use Rattle.std.proofs.Common.{◌≡◌, ℕ, zero, suc, ◌+◌, ◌*◌, ◌%◌, ◌<◌, List, [], ◌∷◌, ◌++◌, length, take, drop}
use Rattle.std.proofs.Common.{map, get_or, refl, sym, ap, ◌∙◌, arith}
use Rattle.std.specs.List.{All}
use Rattle.std.proofs.Math.Seq.{take-append_seam}
use Rattle.std.proofs.lemmas.List.{get_or_default, get_or-map}
use Rattle.dfa_core.specs.declared.automaton.Seen.{Seen}
use Rattle.dfa_core.specs.declared.automaton.Seen.TheVariants.{Friend, Enemy, Empty, Off}
use Rattle.dfa_core.specs.declared.kind.RowKind.{RowKind}
use Rattle.dfa_core.specs.declared.kind.RowKind.TheVariants.{Plain, Accepting, Dead}
use Rattle.dfa_core.specs.Automata.{Row, row_at, step_at, IsAutomaton}
use Rattle.dfa_core.specs.RowKinds.{kind_at, HasKinds}
use Rattle.dfa_core.specs.Tables.{Flat, rows_in}
use Rattle.dfa_core.specs.Words.{letter_number}
use Rattle.dfa_core.specs.Entries.{kind_number, entry_with, row_of, entry_in, AreEntries, HasEntries}
use Rattle.dfa_core.proofs.RowKinds.{kind-plain, kind-dead}
use Rattle.dfa_core.proofs.Tables.{flat_with, target-at, length-rows}

-- a kind has one of four numbers
pub kind_below : (kind : RowKind) → kind_number kind < 4
kind_below Plain = omega arith
kind_below Accepting = omega arith
kind_below Dead = omega arith

-- the row of an entry is the one that it was made of
pub row_of-entry : (kind : RowKind) (row : ℕ) → row_of (entry_with kind row) ≡ row
row_of-entry kind row = omega (arith, kind_below kind)

-- the rows of the entries of some rows are these rows
pub rows_of-entries : (kinds : List RowKind) (targets : List ℕ) → map row_of (map (entry_in kinds) targets) ≡ targets
rows_of-entries kinds [] = refl
rows_of-entries kinds (t ∷ ts) = grind (arith, row_of-entry, rows_of-entries kinds ts)

-- a row has four letters
pub letter_below : (x : Seen) → letter_number x < 4
letter_below Friend = omega arith
letter_below Enemy = omega arith
letter_below Empty = omega arith
letter_below Off = omega arith

-- each number below four is that of a letter
pub letter_with : (k : ℕ) → k < 4 → (x : Seen) × (letter_number x ≡ k)
letter_with zero low = (Friend, refl)
letter_with (suc zero) low = (Enemy, refl)
letter_with (suc (suc zero)) low = (Empty, refl)
letter_with (suc (suc (suc zero))) low = (Off, refl)
letter_with (suc (suc (suc (suc k)))) low = absurd (omega arith)

-- each target of an automaton is one of its rows
pub targets_within : (t : Flat) (kinds : List RowKind) → HasKinds t kinds → IsAutomaton (rows_in t)
    → All (λ row. row < length (rows_in t)) t.targets
targets_within t kinds has good i d low =
    grind (
      arith,
      letter_with (i % 4),
      length-rows t,
      get_or_default t.targets i d 0 low,
      target-at t has.flat,
      letter_below,
    )

-- each entry of an automaton's table is that of a target of its row
pub entries_are : (t : Flat) (entries : List ℕ) (kinds : List RowKind) → HasEntries t entries kinds
    → length entries ≡ length t.targets → IsAutomaton (rows_in t) → AreEntries (rows_in t) entries
entries_are t entries kinds has long good = record {
  many = long ∙ has.with_kinds.flat.targets ∙ ap (λ n. 4 * n) (sym (length-rows t));
  each = λ r x low.
      let inside : r < length t.depths = omega (arith, low, length-rows t) in
      let row : ℕ = step_at (rows_in t) r x in
      let place : 4 * r + letter_number x < length t.targets =
      omega (arith, inside, letter_below x, has.with_kinds.flat.targets) in
      ap (λ es. get_or es (4 * r + letter_number x) 0) has.each
      ∙ get_or-map (entry_in kinds) t.targets (4 * r + letter_number x) 0 0 place
      ∙ ap (entry_in kinds) (target-at t has.with_kinds.flat r (letter_number x) inside (letter_below x))
      ∙ ap (λ kind. entry_with kind row) (has.with_kinds.of_rows.each row (good.targets r x low));
}

-- a list that was written whole over another is all that is left of both
pub written_whole : {X : Type 0} (n : ℕ) (new old : List X) → length new ≡ n
    → take n (new ++ drop (length new) old) ≡ new
written_whole n new old long = grind (arith, take-append_seam)

module _ (targets starts numbers depths entries : List ℕ) (kinds : List RowKind)
    (written : entries ≡ map (entry_in kinds) targets) where
  -- the rows of the entries of all targets are the targets
  same_targets : map row_of entries ≡ targets
  same_targets = ap (map row_of) written ∙ rows_of-entries kinds targets

  -- so the rows are as they were
  pub closed_rows : rows_in (flat_with (map row_of entries) starts numbers depths)
      ≡ rows_in (flat_with targets starts numbers depths)
  closed_rows = ap (λ ts. rows_in (flat_with ts starts numbers depths)) same_targets

  -- and each entry is that of its row
  pub closed_entries : HasKinds (flat_with targets starts numbers depths) kinds
      → HasEntries (flat_with (map row_of entries) starts numbers depths) entries kinds
  closed_entries has = grind (arith, flat_with, same_targets)

-- a row with an even entry accepts nothing
pub silent_entry : (rows : List Row) (row : ℕ) → entry_with (kind_at rows row) row % 2 ≡ 0
    → (row_at rows row).numbers ≡ []
silent_entry rows row even = grind (arith, kind-plain, kind-dead)
