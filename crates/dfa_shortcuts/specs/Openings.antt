-- The rows after the first letters of words, found by the words' numbers.
use Rattle.std.specs.Prelude.{◌≡◌, ◌≢◌, ℕ, ◌+◌, ◌*◌, ◌^◌, ◌<◌, ◌==◌, List, [], ◌∷◌, ◌++◌, length, slice_index_or}
use Rattle.std.specs.Prelude.{All, if◌then◌else◌}
use Rattle.dfa_core.specs.Automata.{Row, reach, accepted}
use Rattle.dfa_core.specs.Entries.{entry_with, row_of}
use Rattle.dfa_core.specs.RowKinds.{kind_at}
use Rattle.dfa_core.specs.Words.{Word, letter_number}
use Rattle.dfa_shortcuts.specs.Shortcuts.{is_accepting_entry, IsOfRow}

-- how many letters an opening has
abbrev pub opening_letters : ℕ
opening_letters = 9

-- stands for an entry that is not known
abbrev pub unknown : ℕ
unknown = 4294967295

-- the number with the digits of n and then the letters of the word
abbrev pub number_from : ℕ → Word → ℕ
number_from n [] = n
number_from n (x ∷ w) = number_from (4 * n + letter_number x) w

-- the number of a word: its letters as digits, the first one highest
abbrev pub word_number : Word → ℕ
word_number w = number_from 0 w

-- the entry is unknown, or it is that of the row to which the word leads and nothing is accepted after the second
-- letter of the word or a later one
pub record IsBehind (rows : List Row) (w : Word) (entry : ℕ) : Type 0 where
  pub to : entry ≢ unknown → entry ≡ entry_with (kind_at rows (reach rows w)) (reach rows w)
  pub silent : entry ≢ unknown → (v u : Word) → w ≡ v ++ u → 1 < length v → accepted rows v ≡ []

-- the list has the entries after all words of n letters, at the indices of their numbers
pub record AreBehind (rows : List Row) (n : ℕ) (entries : List ℕ) : Type 0 where
  pub all : length entries ≡ 4 ^ n
  pub each : (w : Word) → length w ≡ n → IsBehind rows w (slice_index_or entries (word_number w) unknown)

-- for each opening the list has the entry after it, or unknown; past its end every entry is unknown
pub record AreOpenings (rows : List Row) (entries : List ℕ) : Type 0 where
  pub each : (w : Word) → length w ≡ opening_letters
      → IsBehind rows w (slice_index_or entries (word_number w) unknown)

-- the entry, or unknown if it is that of a row that accepts something
abbrev pub silent_entry : ℕ → ℕ
silent_entry entry = if is_accepting_entry entry then unknown else entry

-- the entry after the letter with this number, or unknown if it is not known
abbrev pub entry_behind : List ℕ → ℕ → ℕ → ℕ
entry_behind entries entry letter =
    if entry == unknown then unknown else silent_entry (slice_index_or entries (4 * row_of entry + letter) 0)

-- the longer list has n entries: those after each letter from each entry of the shorter list, one after the other
pub record AreLonger (entries shorter : List ℕ) (n : ℕ) (longer : List ℕ) : Type 0 where
  pub many : length longer ≡ n
  pub each : (i letter : ℕ) → letter < 4 → 4 * i + letter < n → slice_index_or longer (4 * i + letter) unknown
      ≡ entry_behind entries (slice_index_or shorter i unknown) letter

-- for each known entry of openings, the four entries of its row lie in the list entries
abbrev pub KnownHaveRows : List ℕ → List ℕ → Type 0
KnownHaveRows entries openings = All (λ entry. entry ≢ unknown → IsOfRow entries entry) openings
