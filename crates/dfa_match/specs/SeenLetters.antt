-- What is seen along the spiral on a position.
use Rattle.std.specs.Prelude.{◌≡◌, ℕ, zero, suc, ◌+◌, ◌*◌, ◌<◌, ◌≤◌, List, [], ◌∷◌, length, slice_index_or, pos as plus}
use Rattle.std.specs.Prelude.{◌-ℤ◌, nat_lt, Option, Some, None, if◌then◌else◌}
use Rattle.go_rules.specs.Board.{largest_size}
use Rattle.go_rules.specs.Transform.{largest_offset}
use Rattle.go_rules.specs.declared.Colour.{Colour}
use Rattle.go_rules.specs.declared.Colour.TheVariants.{Black as black, White as white}
use Rattle.go_rules.specs.declared.Cell.{Cell}
use Rattle.go_rules.specs.declared.Cell.TheVariants.{Empty as empty_cell, Black as black_stone, White as white_stone}
use Rattle.go_rules.specs.Strings.{cell_at}
use Rattle.go_rules.specs.Position.{BoardState}
use Rattle.spiral.specs.Spiral.{offset_at, place_at, strip_of, point_of}
use Rattle.dfa_core.specs.declared.automaton.Seen.{Seen}
use Rattle.dfa_core.specs.declared.automaton.Seen.TheVariants.{Friend, Enemy, Empty, Off}
use Rattle.dfa_core.specs.Words.{Word}

-- what a cell is for a friend of this colour: a stone of the friend or of the enemy, or empty
abbrev pub seen_of : Colour → Cell → Seen
seen_of black black_stone = Friend
seen_of black white_stone = Enemy
seen_of black empty_cell = Empty
seen_of white black_stone = Enemy
seen_of white white_stone = Friend
seen_of white empty_cell = Empty

-- what the friend sees at a point, or at None, which is off the board
abbrev pub seen_at_place : BoardState → Colour → Option ℕ → Seen
seen_at_place pos friend None = Off
seen_at_place pos friend (Some q) = seen_of friend (cell_at pos.cells q)

-- what is seen from the anchor m at index i of the spiral, whose offset is moved by t
unfoldable pub seen_at : BoardState → Colour → ℕ → ℕ → ℕ → Seen
seen_at pos friend t m i = seen_at_place pos friend (place_at pos.size t m (offset_at i))

-- the word of the n letters from index i on, if the letter at each index is as seen says
unfoldable pub word_from : (ℕ → Seen) → ℕ → ℕ → Word
word_from seen i zero = []
word_from seen i (suc n) = seen i ∷ word_from seen (suc i) n

-- the word of the first n letters that are read from the anchor m under t
abbrev pub word_at : BoardState → Colour → ℕ → ℕ → ℕ → Word
word_at pos friend t m n = word_from (seen_at pos friend t m) 0 n

-- how many rows and columns the padded board has: those of the largest board, and the largest offset on both sides
abbrev pub padded_side : ℕ
padded_side = 73

-- the point of a board of size s in row r and column c of the padded board, if there is one
abbrev pub padded_point : ℕ → ℕ → ℕ → Option ℕ
padded_point s r c = point_of s (strip_of s (plus r -ℤ plus largest_offset))
    (strip_of s (plus c -ℤ plus largest_offset))

-- what the friend sees at a point below n; off the board at other points and at None
abbrev pub seen_below : ℕ → BoardState → Colour → Option ℕ → Seen
seen_below n pos friend None = Off
seen_below n pos friend (Some q) = if nat_lt q n then seen_of friend (cell_at pos.cells q) else Off

-- the padded board shows what the friend sees at the points below n, and is off the board elsewhere
pub record IsPaddedBoardBelow (n : ℕ) (pos : BoardState) (friend : Colour) (letters : List Seen) : Type 0 where
  pub length : length letters ≡ padded_side * padded_side
  pub each : (r c : ℕ) → r < padded_side → c < padded_side
      → slice_index_or letters (r * padded_side + c) Off ≡ seen_below n pos friend (padded_point pos.size r c)

-- letters shows, on the padded board, what the friend sees at each point of a board of this size
pub record IsPaddedBoard (pos : BoardState) (friend : Colour) (size : ℕ) (letters : List Seen) : Type 0 where
  pub same_size : size ≡ pos.size
  pub few : size ≤ largest_size
  pub all : IsPaddedBoardBelow (pos.size * pos.size) pos friend letters
