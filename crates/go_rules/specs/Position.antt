-- Positions: what stands on each point of a board, and the ko ban.
use Rattle.std.specs.Prelude.{◌≡◌, ℕ, ◌*◌, ◌<◌, ◌≤◌, ◌==◌, ◌&&◌, Bool, true, false, List, length, Option, Some, None}
use Rattle.std.specs.Prelude.{IfSome}
use Rattle.go_rules.specs.declared.Cell.{Cell}
use Rattle.go_rules.specs.declared.Cell.TheVariants.{Empty, Black, White}
use Rattle.go_rules.specs.declared.Colour.{Colour}
use Rattle.go_rules.specs.declared.Colour.TheVariants.{Black as black, White as white}
use Rattle.go_rules.specs.Board.{smallest_size, largest_size}
use Rattle.go_rules.specs.Strings.{cell_at, is_stone, liberties}

-- a board: its size, its cells in reading order, and the play that the ko ban forbids
pub record BoardState : Type 0 where
  pub size : ℕ
  pub cells : List Cell
  pub ban : Option (ℕ × Colour)

-- the other colour
abbrev pub other : Colour → Colour
other black = white
other white = black

-- the cell of a stone of the colour
abbrev pub stone_of : Colour → Cell
stone_of black = Black
stone_of white = White

-- the colour of the stone in a cell; black for the empty cell, which has none
abbrev pub colour_of : Cell → Colour
colour_of Empty = black
colour_of Black = black
colour_of White = white

-- the two colours are the same
abbrev pub same_colour : Colour → Colour → Bool
same_colour black black = true
same_colour white white = true
same_colour _ _ = false

-- the board is a position: it has a legal size and a cell for each point, every string has a liberty, and the ban's
-- point is on the board and empty
pub record IsPosition (pos : BoardState) : Type 0 where
  pub size_at_least : smallest_size ≤ pos.size
  pub size_at_most : pos.size ≤ largest_size
  pub cells : length pos.cells ≡ pos.size * pos.size
  pub alive : (p : ℕ) → p < pos.size * pos.size → is_stone (cell_at pos.cells p) ≡ true
      → 0 < liberties pos.size pos.cells p
  pub ban : IfSome pos.ban (λ b. (b.0 < pos.size * pos.size) × (cell_at pos.cells b.0 ≡ Empty))

-- the ban forbids c to play at p
abbrev pub is_banned : Option (ℕ × Colour) → Colour → ℕ → Bool
is_banned None c p = false
is_banned (Some b) c p = (b.0 == p) && same_colour b.1 c

-- the board of size s with the cells and without a ban
abbrev pub board_of : ℕ → List Cell → BoardState
board_of s cells = record { size = s; cells = cells; ban = None }
