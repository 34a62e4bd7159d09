-- Rows where walks stand: dead ones, and those behind anchors, openings and letters.
use Rattle.std.proofs.Common.{◌≡◌, ◌≢◌, ℕ, ◌≤◌, ◌⊎◌, true, false}
use Rattle.std.proofs.Common.{List, get_or, map, filter, refl, arith}
use Rattle.std.specs.List.{All}
use Rattle.std.proofs.lemmas.Bool.{cases_Bool, and_cases, not-false, eqb-true, eqb-false, ltb-false}
use Rattle.std.proofs.lemmas.List.Elements.{All-map, All-filter}
use Rattle.spiral.specs.Spiral.{offset_count}
use Rattle.dfa_core.specs.declared.automaton.Seen.{Seen}
use Rattle.dfa_core.specs.declared.kind.RowKind.{RowKind}
use Rattle.dfa_core.specs.declared.kind.RowKind.TheVariants.{Plain, Accepting, Dead}
use Rattle.dfa_core.specs.Automata.{Row, IsAutomaton, IsDead}
use Rattle.dfa_core.specs.Entries.{entry_with, row_of}
use Rattle.dfa_core.proofs.RowKinds.{kind-dead}
use Rattle.dfa_shortcuts.specs.Shortcuts.{is_dead_entry, AreShortcuts}
use Rattle.dfa_shortcuts.specs.Openings.{opening_letters, unknown, AreOpenings}
use Rattle.dfa_shortcuts.proofs.EntryRows.{entry_of_row}
use Rattle.dfa_shortcuts.proofs.OpeningRows.{opening_row}
use Rattle.dfa_match.specs.declared.walks.Walk.{Walk}
use Rattle.dfa_match.specs.Walks.{after_anchor, goes_on, word_behind}
use Rattle.dfa_match.specs.Walks.{opening_of, after_opening, after_letters, IsStanding}
use Rattle.dfa_match.proofs.SeenWords.{word_length}
use Rattle.dfa_match.proofs.StandingWalks.{standing_after}

-- the kind of a row with a dead entry
dead_kind : (kind : RowKind) (row entry : ℕ) → entry ≡ entry_with kind row → is_dead_entry entry ≡ true → kind ≡ Dead
dead_kind Plain row entry is dead = absurd (omega (arith, is, eqb-true _ _ dead))
dead_kind Accepting row entry is dead = absurd (omega (arith, is, eqb-true _ _ dead))
dead_kind Dead row entry is dead = refl

-- a walk that does not go on stands at a dead row, or has no letters left
pub ended_cases : (automaton : List Row) (w : Walk) → IsStanding automaton w → goes_on w ≡ false
    → IsDead automaton (row_of w.entry) ⊎ (offset_count ≤ w.letters)
ended_cases automaton w stands ends = grind (arith, and_cases, kind-dead, dead_kind, not-false, ltb-false)

-- the walk behind an opening that is known
abbrev pub opened : List ℕ → List ℕ → List Seen → Walk → Walk
opened openings steps letters w = record {
  entry = opening_of openings steps letters w;
  letters = opening_letters;
  corner = w.corner;
}

-- a walk is as it was, or behind an opening that is known
pub opening_cases : (openings steps : List ℕ) (letters : List Seen) (w : Walk)
    → (after_opening openings steps letters w ≡ w)
    ⊎ ((after_opening openings steps letters w ≡ opened openings steps letters w)
    × (opening_of openings steps letters w ≢ unknown))
opening_cases openings steps letters w = grind (arith, cases_Bool, eqb-false)

-- behind its opening a walk is from the same anchor
pub opening_corner : (openings steps : List ℕ) (letters : List Seen) (w : Walk)
    → (after_opening openings steps letters w).corner ≡ w.corner
opening_corner openings steps letters w = grind (arith, opening_cases)

-- behind its opening a walk that had read one letter has read one or more
pub opening_more : (openings steps : List ℕ) (letters : List Seen) (w : Walk) → w.letters ≡ 1
    → 1 ≤ (after_opening openings steps letters w).letters
opening_more openings steps letters w one = grind (arith, opening_cases)

module _ (automaton : List Row) (good : IsAutomaton automaton) where
  -- behind the letter of its anchor a walk stands at a row
  standing_anchor : (letters : List Seen) (w : Walk) → IsStanding automaton w
      → IsStanding automaton (after_anchor automaton letters w)
  standing_anchor letters w stands = grind (arith, entry_of_row)

  -- behind its opening a walk stands at a row
  standing_opening : (openings steps : List ℕ) (letters : List Seen) (w : Walk) → AreOpenings automaton openings
      → IsStanding automaton w → IsStanding automaton (after_opening openings steps letters w)
  standing_opening openings steps letters w are stands =
      grind (
        arith,
        opening_row automaton openings (word_behind letters steps w.corner opening_letters) good are,
        word_length,
      )

  -- the walks behind the letters of their anchors stand at rows
  pub begun_standing : (letters : List Seen) (walks : List Walk) → All (IsStanding automaton) walks
      → All (IsStanding automaton) (map (after_anchor automaton letters) walks)
  begun_standing letters walks standing = All-map (IsStanding automaton) (after_anchor automaton letters) walks
      (λ k d low. standing_anchor letters (get_or walks k d) (standing k d low))

  -- the walks behind the letters of their anchors that go on stand at rows
  pub second_standing : (letters : List Seen) (walks : List Walk) → All (IsStanding automaton) walks
      → All (IsStanding automaton) (filter goes_on (map (after_anchor automaton letters) walks))
  second_standing letters walks standing = All-filter goes_on (IsStanding automaton)
      (map (after_anchor automaton letters) walks) (begun_standing letters walks standing)

  -- the walks behind their openings stand at rows
  pub opened_standing : (openings steps : List ℕ) (letters : List Seen) (walks : List Walk)
      → AreOpenings automaton openings → All (IsStanding automaton) walks
      → All (IsStanding automaton) (map (after_opening openings steps letters) walks)
  opened_standing openings steps letters walks are standing =
      All-map (IsStanding automaton) (after_opening openings steps letters) walks
      (λ k d low. standing_opening openings steps letters (get_or walks k d) are (standing k d low))

  -- the walks behind letters stand at rows
  pub passed_standing : (entries passed steps : List ℕ) (letters : List Seen) (walks : List Walk)
      → AreShortcuts automaton entries passed → All (IsStanding automaton) walks
      → All (IsStanding automaton) (map (after_letters entries passed steps letters) walks)
  passed_standing entries passed steps letters walks are standing =
      All-map (IsStanding automaton) (after_letters entries passed steps letters) walks
      (λ k d low. standing_after automaton entries passed steps letters (get_or walks k d) good are (standing k d low))
