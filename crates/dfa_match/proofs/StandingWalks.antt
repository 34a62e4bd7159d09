-- Where walks stand, and what they give out there.
use Rattle.std.proofs.Common.{◌≡◌, ℕ, suc, ◌+◌, ◌*◌, ◌<◌, ◌≤◌, ◌++◌, true, false}
use Rattle.std.proofs.Common.{nat_le, List, [], ◌∷◌, refl, ap, ◌∙◌, arith}
use Rattle.std.proofs.lemmas.Bool.{and_parts, ltb-true}
use Rattle.std.proofs.lemmas.List.Elements.{All-map}
use Rattle.std.specs.List.{All, range_with_len}
use denote.Enum.Declared.{tag_of}
use Rattle.spiral.specs.Spiral.{offset_count}
use Rattle.dfa_core.specs.contracts.kind.RowKind.{the_type}
use Rattle.dfa_core.specs.declared.automaton.Seen.{Seen}
use Rattle.dfa_core.specs.declared.kind.RowKind.{RowKind}
use Rattle.dfa_core.specs.declared.kind.RowKind.TheVariants.{Plain, Accepting, Dead}
use Rattle.dfa_core.specs.Automata.{Row, row_at, IsAutomaton}
use Rattle.dfa_core.specs.Entries.{kind_number, row_of}
use Rattle.dfa_core.specs.RowKinds.{kind_at}
use Rattle.dfa_core.proofs.Entries.{row_of-entry}
use Rattle.dfa_shortcuts.specs.Openings.{unknown}
use Rattle.dfa_shortcuts.specs.Shortcuts.{is_accepting_entry, AreShortcuts}
use Rattle.dfa_shortcuts.proofs.EntryRows.{silent_row}
use Rattle.dfa_shortcuts.proofs.ShortcutRows.{shortcut_row}
use Rattle.dfa_match.specs.declared.cursor.Cursor.{Cursor}
use Rattle.dfa_match.specs.declared.walks.Walk.{Walk}
use Rattle.dfa_match.specs.Hits.{hits_at}
use Rattle.dfa_match.specs.Steps.{corner_at, cursor_at, last_corner}
use Rattle.dfa_match.specs.Walks.{first_walks_of}
use Rattle.dfa_match.specs.Walks.{anchor_of, entry_at_row, after_letters, after_opening, opening_of, given_at, hits_of}
use Rattle.dfa_match.specs.Walks.{goes_on, IsStanding}

-- the walk from the point m of a board of size s, before the first letter
abbrev pub first_walk : List Row → ℕ → ℕ → Walk
first_walk automaton s m = record {
  entry = entry_at_row automaton 0;
  letters = 0;
  corner = corner_at s m;
}

-- a kind's tag is its number
kind_tag : (kind : RowKind) → tag_of the_type kind ≡ kind_number kind
kind_tag Plain = refl
kind_tag Accepting = refl
kind_tag Dead = refl

-- the walk that is made of these parts is that of the point
pub first_walk-is : (automaton : List Row) (s m : ℕ) (kind : RowKind) (at : Cursor)
    → kind ≡ kind_at automaton 0 → at ≡ cursor_at s m
    → record { entry = tag_of the_type kind; letters = 0; corner = at.corner } ≡ first_walk automaton s m
first_walk-is automaton s m kind at is stands = grind (arith, tag_of, kind_tag)

-- it stands at the start
pub first_standing : (automaton : List Row) (s m : ℕ) → IsAutomaton automaton → corner_at s m ≤ last_corner
    → IsStanding automaton (first_walk automaton s m)
first_standing automaton s m good low = grind (arith, row_of-entry)

-- behind a letter, and those that are passed over, a walk stands at a row
pub standing_after : (automaton : List Row) (entries passed steps : List ℕ) (letters : List Seen) (w : Walk)
    → IsAutomaton automaton → AreShortcuts automaton entries passed → IsStanding automaton w
    → IsStanding automaton (after_letters entries passed steps letters w)
standing_after automaton entries passed steps letters w good are standing = grind (arith, shortcut_row)

-- a walk that goes on has letters left
pub letters_left : (w : Walk) → goes_on w ≡ true → w.letters < offset_count
letters_left w going = grind (arith, ltb-true, and_parts)

-- if nothing is known of the row behind the opening, the walk stays as it was
pub unopened : (openings steps : List ℕ) (letters : List Seen) (w : Walk)
    → opening_of openings steps letters w ≡ unknown → w ≡ after_opening openings steps letters w
unopened openings steps letters w is = grind arith

-- a walk whose entry is not that of an accepting row stands at one that accepts nothing
pub silent_standing : (automaton : List Row) (w : Walk) → IsStanding automaton w → is_accepting_entry w.entry ≡ false
    → (row_at automaton (row_of w.entry)).numbers ≡ []
silent_standing automaton w standing silent = grind (arith, silent_row)

-- a walk at a row that accepts nothing gives out nothing
pub given_at-silent : (automaton : List Row) (w : Walk) → (row_at automaton (row_of w.entry)).numbers ≡ []
    → given_at automaton w ≡ []
given_at-silent automaton w silent = grind (arith, nat_le)

-- walks at rows that accept nothing give out nothing
pub hits_of-silent : (automaton : List Row) (s t : ℕ) (walks : List Walk)
    → All (λ w. (row_at automaton (row_of w.entry)).numbers ≡ []) walks → hits_of automaton s t walks ≡ []
hits_of-silent automaton s t [] silent = refl
hits_of-silent automaton s t (w ∷ walks) silent =
    ap (λ ns. hits_at t (anchor_of s w) ns ++ hits_of automaton s t walks)
    (given_at-silent automaton w (silent 0 w (omega arith)))
    ∙ hits_of-silent automaton s t walks (λ k d low. silent (suc k) d (omega (arith, low)))

-- walks at the start give out nothing where it accepts nothing
pub hits_of-start : (automaton : List Row) (s t : ℕ) (walks : List Walk) → All (λ w. row_of w.entry ≡ 0) walks
    → (row_at automaton 0).numbers ≡ [] → hits_of automaton s t walks ≡ []
hits_of-start automaton s t walks start silent = grind (arith, hits_of-silent)

-- before their first letter all walks are at the start
pub first_at_start : (automaton : List Row) (s : ℕ) → All (λ w. row_of w.entry ≡ 0) (first_walks_of automaton s)
first_at_start automaton s = All-map (λ w. row_of w.entry ≡ 0) (first_walk automaton s) (range_with_len 0 (s * s))
    (λ k d low. row_of-entry (kind_at automaton 0) 0)
