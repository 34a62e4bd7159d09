-- The bytes that are written of a position, and the position that is read from them.
use Rattle.std.proofs.Common.{◌≡◌, ◌∙◌, ℕ, ◌+◌, ◌-◌, ◌*◌, ◌<◌, ◌≤◌, ◌++◌, true, false, List, [], ◌∷◌, map, length}
use Rattle.std.proofs.Common.{refl, sym, ap, arith, set, take, drop, replicate, length-take, length-set}
use Rattle.std.proofs.Common.{get_or-take, Option, Some, None, Ok}
use Rattle.std.specs.Prelude.{slice_index_or, IfSome}
use Rattle.std.specs.List.{list_all}
use Rattle.std.proofs.lemmas.Bool.{cases_Bool, cases_eq, lt-ltb, ne_eqb}
use Rattle.std.proofs.lemmas.List.{get_or-set_same, get_or-set_other, drop-set-lt, drop-replicate, length-map}
use Rattle.std.proofs.lemmas.List.{get_or-map, ext_get_or, take-append-drop}
use Rattle.std.proofs.Math.Seq.{take-append_seam}
use Rattle.go_rules.specs.declared.Cell.{Cell}
use Rattle.go_rules.specs.declared.Cell.TheVariants.{Empty, Black, White}
use Rattle.go_rules.specs.declared.Colour.{Colour}
use Rattle.go_rules.specs.declared.Colour.TheVariants.{Black as black, White as white}
use Rattle.go_rules.specs.Board.{largest_points, largest_size}
use Rattle.go_rules.specs.Position.{BoardState, IsPosition, board_of}
use Rattle.go_rules.specs.Strings.{cell_at}
use Rattle.go_base.specs.Setups.{has_dead_string}
use Rattle.go_base.proofs.Setups.{none_dead}
use Rattle.go_base.proofs.SidesOfPoints.{square_small}
use Rattle.board_bytes.specs.declared.board.BoardBytes.{BoardBytes}
use Rattle.board_bytes.specs.Bytes.{is_cell_byte, cell_of, byte_of, point_bytes, stones_of, with_ban}
use Rattle.board_bytes.specs.Bytes.{position_of, bytes_of, ban_byte, ban_point}
use Rattle.board_bytes.proofs.Boards.{by_stones}

-- the first n bytes are those of the cells, and the bytes behind the board are 0
pub record IsWritten (pos : BoardState) (n : ℕ) (bytes : List ℕ) : Type 0 where
  pub whole : length bytes ≡ largest_points
  pub filled : (k : ℕ) → k < n → slice_index_or bytes k 0 ≡ byte_of (cell_at pos.cells k)
  pub padded : drop (pos.size * pos.size) bytes ≡ replicate (largest_points - pos.size * pos.size) 0

-- nothing is written yet
pub IsWritten-none : (pos : BoardState) (bytes : List ℕ) → bytes ≡ replicate largest_points 0 → IsWritten pos 0 bytes
IsWritten-none pos bytes e = record {
  whole = rw e refl;
  filled = λ k below. absurd (omega (arith, below));
  padded = ap (drop (pos.size * pos.size)) e ∙ drop-replicate (pos.size * pos.size) largest_points 0;
}

-- one byte more
pub IsWritten-more : {pos : BoardState} {n : ℕ} {bytes : List ℕ} → IsWritten pos n bytes → n < pos.size * pos.size
    → pos.size ≤ largest_size → IsWritten pos (n + 1) (set bytes n (byte_of (cell_at pos.cells n)))
IsWritten-more {pos} {n} {bytes} h on small =
    grind (arith, square_small, length-set, cases_eq, get_or-set_same, get_or-set_other, drop-set-lt)

-- the bytes of the points are those of the cells
points_written : (pos : BoardState) (bytes : List ℕ) → IsWritten pos (pos.size * pos.size) bytes → IsPosition pos
    → take (pos.size * pos.size) bytes ≡ map byte_of pos.cells
points_written pos bytes h is =
    let few = square_small pos.size is.size_at_most in
    let n = pos.size * pos.size in
    let long : length (take n bytes) ≡ n = simp length-take (omega (arith, h.whole, few)) in
    ext_get_or 0 (take n bytes) (map byte_of pos.cells) (long ∙ sym (length-map pos.cells byte_of ∙ is.cells))
    (λ k on. get_or-take n bytes k 0 (omega (arith, long, on)) ∙ h.filled k (omega (arith, long, on))
    ∙ sym (get_or-map byte_of pos.cells k Empty 0 (omega (arith, long, on, is.cells))))

-- all bytes
pub IsWritten-all : (pos : BoardState) (bytes : List ℕ) → IsWritten pos (pos.size * pos.size) bytes → IsPosition pos
    → bytes ≡ map byte_of pos.cells ++ replicate (largest_points - pos.size * pos.size) 0
IsWritten-all pos bytes h is =
    grind (arith, take-append-drop (pos.size * pos.size) bytes, points_written pos bytes h is)

-- the byte of a cell names it
cell_back : (cell : Cell) → cell_of (byte_of cell) ≡ cell
cell_back Empty = refl
cell_back Black = refl
cell_back White = refl

-- the byte of a cell names a cell
byte_is_named : (cell : Cell) → is_cell_byte (byte_of cell) ≡ true
byte_is_named Empty = refl
byte_is_named Black = refl
byte_is_named White = refl

-- the bytes of cells name them
cells_back : (cells : List Cell) → map cell_of (map byte_of cells) ≡ cells
cells_back [] = refl
cells_back (cell ∷ cells) = rw (cell_back cell, cells_back cells) refl

-- each of these bytes names a cell
bytes_are_named : (cells : List Cell) → list_all is_cell_byte (map byte_of cells) ≡ true
bytes_are_named [] = refl
bytes_are_named (cell ∷ cells) = rw (byte_is_named cell, bytes_are_named cells) refl

-- no string of a position is dead
none_is_dead : (pos : BoardState) → IsPosition pos → has_dead_string pos.size pos.cells ≡ false
none_is_dead pos is = grind (arith, none_dead, cases_Bool, ne_eqb)

-- the stones of a position are read from their bytes
stones_back : (pos : BoardState) → IsPosition pos
    → stones_of pos.size (map byte_of pos.cells) ≡ Some (board_of pos.size pos.cells)
unfolding stones_of
stones_back pos is = rw (cells_back pos.cells, none_is_dead pos is) refl

-- a ban on an empty point is read from its bytes
ban_back_at : (s : ℕ) (cells : List Cell) (p : ℕ) (c : Colour) → p < s * s → cell_at cells p ≡ Empty
    → with_ban (board_of s cells) (ban_byte (Some (p, c))) p ≡ Some (record { size = s; cells = cells; ban = Some (p, c) })
unfolding with_ban
ban_back_at s cells p black on empty = rw (lt-ltb p (s * s) on, empty) refl
ban_back_at s cells p white on empty = rw (lt-ltb p (s * s) on, empty) refl

-- and so is a ban, or none, from what is written of it
ban_back : (s : ℕ) (cells : List Cell) (ban : Option (ℕ × Colour))
    → IfSome ban (λ b. (b.0 < s * s) × (cell_at cells b.0 ≡ Empty))
    → with_ban (board_of s cells) (ban_byte ban) (ban_point ban)
    ≡ Some (record { size = s; cells = cells; ban = ban })
unfolding with_ban
ban_back s cells None h = refl
ban_back s cells (Some ban) h = ban_back_at s cells ban.0 ban.1 h.0 h.1

-- the bytes of the points are those of the cells
points_back : (pos : BoardState) → IsPosition pos → point_bytes (bytes_of pos) ≡ map byte_of pos.cells
unfolding bytes_of
points_back pos is = grind (arith, length-map, take-append_seam)

-- what is written of a position is read as this position
pub read_back : (pos : BoardState) → IsPosition pos → position_of (bytes_of pos) ≡ Ok pos
unfolding bytes_of
read_back pos is =
    grind (
      arith,
      by_stones (bytes_of pos),
      points_back pos is,
      bytes_are_named pos.cells,
      stones_back pos is,
      ban_back pos.size pos.cells pos.ban is.ban,
    )

-- bytes that are those of a position are read as it
pub read_back_from : (pos : BoardState) (bytes : BoardBytes) → bytes ≡ bytes_of pos → IsPosition pos
    → position_of bytes ≡ Ok pos
read_back_from pos bytes e is = ap position_of e ∙ read_back pos is
