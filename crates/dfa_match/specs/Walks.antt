-- Walks of an automaton from all anchors, each with the letters that it has read.
use Rattle.std.specs.Prelude.{◌≡◌, ℕ, ◌+◌, ◌*◌, ◌<◌, ◌≤◌, Bool, ◌&&◌, ◌==◌, not, nat_lt, nat_le, List, [], map}
use Rattle.std.specs.Prelude.{filter, length, slice_index_or, Contains, AllPairs, if◌then◌else◌}
use Rattle.std.specs.List.{flat_map, range_with_len}
use Rattle.go_rules.specs.declared.Colour.{Colour}
use Rattle.go_rules.specs.Position.{BoardState}
use Rattle.spiral.specs.Spiral.{offset_count}
use Rattle.dfa_core.specs.declared.automaton.Seen.{Seen}
use Rattle.dfa_core.specs.declared.automaton.Seen.TheVariants.{Off}
use Rattle.dfa_core.specs.Automata.{Row, row_at, step_at, reach}
use Rattle.dfa_core.specs.Entries.{entry_with, row_of}
use Rattle.dfa_core.specs.RowKinds.{kind_at}
use Rattle.dfa_core.specs.Words.{Word, letter_number}
use Rattle.dfa_shortcuts.specs.Shortcuts.{is_dead_entry}
use Rattle.dfa_shortcuts.specs.Openings.{opening_letters, unknown, word_number}
use Rattle.dfa_match.specs.declared.Hit.{Hit}
use Rattle.dfa_match.specs.declared.walks.Walk.{Walk}
use Rattle.dfa_match.specs.Hits.{hits_at}
use Rattle.dfa_match.specs.SeenLetters.{word_at, word_from}
use Rattle.dfa_match.specs.Steps.{corner_at, anchor_at_corner, last_corner, no_step}

-- the point from which a walk on a board of size s began
abbrev pub anchor_of : ℕ → Walk → ℕ
anchor_of s w = anchor_at_corner s w.corner

-- the entry of row r: the row and its kind
abbrev pub entry_at_row : List Row → ℕ → ℕ
entry_at_row automaton r = entry_with (kind_at automaton r) r

-- the walks from all points of a board of size s, before the first letter
abbrev pub first_walks_of : List Row → ℕ → List Walk
first_walks_of automaton s = map (λ m. record {
  entry = entry_at_row automaton 0;
  letters = 0;
  corner = corner_at s m;
}) (range_with_len 0 (s * s))

-- the walk after the letter of its anchor
abbrev pub after_anchor : List Row → List Seen → Walk → Walk
after_anchor automaton letters w = record {
  entry =
      entry_at_row automaton (step_at automaton (row_of w.entry) (slice_index_or letters (w.corner + no_step) Off));
  letters = 1;
  corner = w.corner;
}

-- whether a walk goes on: its row is not dead, and there are letters left
abbrev pub goes_on : Walk → Bool
goes_on w = not (is_dead_entry w.entry) && nat_lt w.letters offset_count

-- the walks from all points of a board of size s after the letters of the points, without those that have ended
abbrev pub second_walks_of : List Row → List Seen → ℕ → List Walk
second_walks_of automaton letters s = filter goes_on (map (after_anchor automaton letters) (first_walks_of automaton s))

-- the first n letters that are read by the steps, if the square of the anchor begins at corner
abbrev pub word_behind : List Seen → List ℕ → ℕ → ℕ → Word
word_behind letters steps corner n =
    word_from (λ i. slice_index_or letters (corner + slice_index_or steps i 0) Off) 0 n

-- the entry of the row after the opening of a walk, or unknown
abbrev pub opening_of : List ℕ → List ℕ → List Seen → Walk → ℕ
opening_of openings steps letters w =
    slice_index_or openings (word_number (word_behind letters steps w.corner opening_letters)) unknown

-- the walk after its opening, or as it was if the row there is not known
abbrev pub after_opening : List ℕ → List ℕ → List Seen → Walk → Walk
after_opening openings steps letters w =
    if opening_of openings steps letters w == unknown then w else record {
      entry = opening_of openings steps letters w;
      letters = opening_letters;
      corner = w.corner;
    }

-- the index among the entries at which a walk reads next
abbrev pub place_of : List ℕ → List Seen → Walk → ℕ
place_of steps letters w =
    4 * row_of w.entry + letter_number (slice_index_or letters (w.corner + slice_index_or steps w.letters 0) Off)

-- the walk after the next letter and the letters that are passed over
abbrev pub after_letters : List ℕ → List ℕ → List ℕ → List Seen → Walk → Walk
after_letters entries passed steps letters w = record {
  entry = slice_index_or entries (place_of steps letters w) 0;
  letters = w.letters + 1 + slice_index_or passed (place_of steps letters w) 0;
  corner = w.corner;
}

-- the walk stands at a row, its entry has the row's kind, and it reads on the padded board
pub record IsStanding (automaton : List Row) (w : Walk) : Type 0 where
  pub row : row_of w.entry < length automaton
  pub kind : w.entry ≡ entry_at_row automaton (row_of w.entry)
  pub corner : w.corner ≤ last_corner

-- the numbers that are accepted at the row where a walk stands, unless the walk has left the spiral
abbrev pub given_at : List Row → Walk → List ℕ
given_at automaton w = if nat_le w.letters offset_count then (row_at automaton (row_of w.entry)).numbers else []

-- the hits of the rows where the walks on a board of size s stand, under t
abbrev pub hits_of : List Row → ℕ → ℕ → List Walk → List Hit
hits_of automaton s t walks = flat_map (λ w. hits_at t (anchor_of s w) (given_at automaton w)) walks

-- the row that the first i letters lead to from the anchor m
abbrev pub row_after : List Row → BoardState → Colour → ℕ → ℕ → ℕ → ℕ
row_after automaton pos friend t i m = reach automaton (word_at pos friend t m i)

-- the walk began at a point of the board, and stands at the row that its letters lead to
pub record IsWalk (automaton : List Row) (pos : BoardState) (friend : Colour) (t : ℕ) (w : Walk) : Type 0 where
  pub anchor : anchor_of pos.size w < pos.size * pos.size
  pub corner : w.corner ≡ corner_at pos.size (anchor_of pos.size w)
  pub row : w.letters ≤ offset_count
      → row_of w.entry ≡ row_after automaton pos friend t w.letters (anchor_of pos.size w)

-- the list has walks of the automaton under t alone, by rising anchors
pub record AreWalks (automaton : List Row) (pos : BoardState) (friend : Colour) (t : ℕ)
    (walks : List Walk) : Type 0 where
  pub each : (w : Walk) → Contains walks w → IsWalk automaton pos friend t w
  pub rising : AllPairs (λ v w. anchor_of pos.size v < anchor_of pos.size w) walks
