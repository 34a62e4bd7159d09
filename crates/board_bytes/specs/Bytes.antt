-- What the bytes of a caller say of a board, and the bytes of a position: 0 is an empty point, 1 black, 2 white.
use Rattle.std.specs.Prelude.{ℕ, ◌-◌, ◌*◌, ◌==◌, ◌&&◌, ◌||◌, Bool, not, nat_lt, List, ◌++◌, map, take, replicate}
use Rattle.std.specs.Prelude.{slice_index_or, Option, Some, None, Result, Err, if◌then◌else◌}
use Rattle.std.specs.List.{list_all}
use Rattle.std.specs.Option.{ok_or}
use Rattle.go_rules.specs.declared.Cell.{Cell}
use Rattle.go_rules.specs.declared.Cell.TheVariants.{Empty, Black, White}
use Rattle.go_rules.specs.declared.Colour.{Colour}
use Rattle.go_rules.specs.declared.Colour.TheVariants.{Black as black, White as white}
use Rattle.go_rules.specs.Board.{smallest_size, largest_size, largest_points}
use Rattle.go_rules.specs.Position.{BoardState, board_of}
use Rattle.go_rules.specs.Strings.{cell_at, same_cell}
use Rattle.go_base.specs.Setups.{has_dead_string}
use Rattle.board_bytes.specs.declared.board.BoardBytes.{BoardBytes}
use Rattle.board_bytes.specs.declared.board.BoardFault.{BoardFault}
use Rattle.board_bytes.specs.declared.board.BoardFault.TheVariants.{Size, Cell as bad_cell, NoLiberty, Ban}

-- the byte names an empty point or a stone
abbrev pub is_cell_byte : ℕ → Bool
is_cell_byte b = not (nat_lt 2 b)

-- the cell that a byte names: black for 1, white for 2, and else empty
abbrev pub cell_of : ℕ → Cell
cell_of b = if b == 1 then Black else if b == 2 then White else Empty

-- the byte of a cell
abbrev pub byte_of : Cell → ℕ
byte_of Empty = 0
byte_of Black = 1
byte_of White = 2

-- the colour that a byte names
abbrev pub colour_named : ℕ → Option Colour
colour_named b = if b == 1 then Some black else if b == 2 then Some white else None

-- the byte of a colour
abbrev pub colour_byte : Colour → ℕ
colour_byte black = 1
colour_byte white = 2

-- the byte of the point p
abbrev pub byte_at : List ℕ → ℕ → ℕ
byte_at bytes p = slice_index_or bytes p 0

-- p is one of the first n points and has the byte b
abbrev pub has_byte : List ℕ → ℕ → ℕ → ℕ → Bool
has_byte bytes b n p = nat_lt p n && (byte_at bytes p == b)

-- the position of size s with the stones that the bytes of its points name and without a ban; None if some string has
-- no liberty
unfoldable pub stones_of : ℕ → List ℕ → Option BoardState
stones_of s bytes = if has_dead_string s (map cell_of bytes) then None else Some (board_of s (map cell_of bytes))

-- the position with a ban on the play of the colour at the point; None if there is no colour or the point is not an
-- empty point of the board
abbrev pub banned : BoardState → ℕ → Option Colour → Option BoardState
banned pos point None = None
banned pos point (Some c) =
    if nat_lt point (pos.size * pos.size) && same_cell (cell_at pos.cells point) Empty
    then Some (record { size = pos.size; cells = pos.cells; ban = Some (point, c) }) else None

-- the position with the ban that the byte of a colour and a point name; the same position if the byte is 0
unfoldable pub with_ban : BoardState → ℕ → ℕ → Option BoardState
with_ban pos colour point = if colour == 0 then Some pos else banned pos point (colour_named colour)

-- the position with the ban that the bytes name; NoLiberty if there is no position, Ban if the ban is faulty
abbrev pub with_stones : BoardBytes → Option BoardState → Result BoardState BoardFault
with_stones board None = Err NoLiberty
with_stones board (Some pos) = ok_or (with_ban pos board.ban_colour board.ban_point) Ban

-- the bytes of the points of the board
abbrev pub point_bytes : BoardBytes → List ℕ
point_bytes board = take (board.size * board.size) board.cells

-- the position that the bytes describe, or the first reason why they describe none: no board has the size, the byte of
-- a point names no cell, a string has no liberty, or the ban is faulty
unfoldable pub position_of : BoardBytes → Result BoardState BoardFault
position_of board =
    if nat_lt board.size smallest_size || nat_lt largest_size board.size then Err Size
    else if not (list_all is_cell_byte (point_bytes board)) then Err bad_cell
    else with_stones board (stones_of board.size (point_bytes board))

-- the byte of the colour that may not play; 0 without a ban
abbrev pub ban_byte : Option (ℕ × Colour) → ℕ
ban_byte None = 0
ban_byte (Some ban) = colour_byte ban.1

-- the point of the ban; 0 without a ban
abbrev pub ban_point : Option (ℕ × Colour) → ℕ
ban_point None = 0
ban_point (Some ban) = ban.0

-- the bytes of a position, with 0 behind the last point
unfoldable pub bytes_of : BoardState → BoardBytes
bytes_of pos = record {
  size = pos.size;
  ban_colour = ban_byte pos.ban;
  ban_point = ban_point pos.ban;
  cells = map byte_of pos.cells ++ replicate (largest_points - pos.size * pos.size) 0;
}
