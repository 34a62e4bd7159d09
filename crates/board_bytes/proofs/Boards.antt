-- The position of a board of bytes, case by case.
use Rattle.std.proofs.Common.{◌≡◌, ℕ, ◌*◌, ◌||◌, ◌↔◌, Bool, true, false, ltb, List, take, Option, Some, None, Err}
use Rattle.std.proofs.Common.{refl, arith}
use Rattle.std.specs.Prelude.{IsSome, IfSome}
use Rattle.std.specs.List.{list_all}
use Rattle.std.proofs.lemmas.Bool.{lt-ltb, le-ltb, cases_lt}
use Rattle.go_rules.specs.Board.{IsSize, smallest_size, largest_size}
use Rattle.go_rules.specs.Position.{BoardState}
use Rattle.board_bytes.specs.declared.board.BoardBytes.{BoardBytes}
use Rattle.board_bytes.specs.declared.board.BoardFault.TheVariants.{Size, Cell as bad_cell}
use Rattle.board_bytes.specs.Bytes.{is_cell_byte, point_bytes, stones_of, with_stones, position_of}

-- a size of a board is neither too small nor too large
size_fits : (s : ℕ) → IsSize s → (ltb s smallest_size || ltb largest_size s) ≡ false
size_fits s h = rw (le-ltb s smallest_size h.at_least, le-ltb largest_size s h.at_most) refl

-- another number is one of the two
size_fits_not : (s : ℕ) → (IsSize s → ⊥) → (ltb s smallest_size || ltb largest_size s) ≡ true
size_fits_not s h = grind (arith, cases_lt, lt-ltb, le-ltb)

-- the size and the bytes of the points were read from the board
pub record IsRead (board : BoardBytes) (size : ℕ) (bytes : List ℕ) : Type 0 where
  pub sized : IsSize board.size
  pub size_is : size ≡ board.size
  pub bytes_are : bytes ≡ point_bytes board

-- a size that is found is that of the board, and n bytes are read
pub is_read : (board : BoardBytes) (found : Option ℕ) (size n m : ℕ) → IsSome found ↔ IsSize board.size
    → IfSome found (λ s. s ≡ board.size) → found ≡ Some size → n ≡ m → m ≡ size * size
    → IsRead board size (take n board.cells)
is_read board found size n m valid value is from points = grind arith

-- no board has the size
pub refuses_size : (board : BoardBytes) (found : Option ℕ) → IsSome found ↔ IsSize board.size → found ≡ None
    → Err Size ≡ position_of board
unfolding position_of
refuses_size board found valid is = grind (arith, size_fits_not)

-- a byte of a point names nothing
pub refuses_cell : (board : BoardBytes) (size : ℕ) (bytes : List ℕ) (named : Bool) → IsRead board size bytes
    → named ≡ list_all is_cell_byte bytes → named ≡ false → Err bad_cell ≡ position_of board
unfolding position_of
refuses_cell board size bytes named read told is = grind (arith, size_fits)

-- if the board has a size and each byte names a cell, the stones and the ban decide
pub by_stones : (board : BoardBytes) → IsSize board.size → list_all is_cell_byte (point_bytes board) ≡ true
    → with_stones board (stones_of board.size (point_bytes board)) ≡ position_of board
unfolding position_of
by_stones board sized h = rw (size_fits board.size sized, h) refl

-- the stones that were read decide
pub by_stones_read : (board : BoardBytes) (size : ℕ) (bytes : List ℕ) (named : Bool) (stones : Option BoardState)
    → IsRead board size bytes → named ≡ list_all is_cell_byte bytes → named ≡ true → stones ≡ stones_of size bytes
    → with_stones board stones ≡ position_of board
by_stones_read board size bytes named stones read told is stand = grind (arith, by_stones)
