-- The rules of a play in terms of paths: what the computing definitions of Play are proved to mean.
use Rattle.std.specs.Prelude.{◌≡◌, ◌≢◌, ℕ, ◌*◌, ◌<◌, List, length, slice_set, Some}
use Rattle.go_rules.specs.declared.Cell.{Cell}
use Rattle.go_rules.specs.declared.Cell.TheVariants.{Empty}
use Rattle.go_rules.specs.declared.Colour.{Colour}
use Rattle.go_rules.specs.Board.{IsSize}
use Rattle.go_rules.specs.Strings.{cell_at, IsInString, IsLiberty}
use Rattle.go_rules.specs.Position.{BoardState, other, stone_of}

-- q holds an enemy of c, and no point is a liberty of its string
pub record IsCaptured (s : ℕ) (put : List Cell) (c : Colour) (q : ℕ) : Type 0 where
  pub enemy : cell_at put q ≡ stone_of (other c)
  pub dead : (l : ℕ) → IsLiberty s put q l → ⊥

-- the cells after are the cells put with the captured stones removed
pub record Removes (s : ℕ) (put : List Cell) (c : Colour) (after : List Cell) : Type 0 where
  pub removed : (q : ℕ) → q < s * s → IsCaptured s put c q → cell_at after q ≡ Empty
  pub kept : (q : ℕ) → q < s * s → (IsCaptured s put c q → ⊥) → cell_at after q ≡ cell_at put q

-- the play of c at p leads from pos to new: p was empty, the captured stones are removed, and the stone at p has a
-- liberty
pub record Follows (pos : BoardState) (c : Colour) (p : ℕ) (new : BoardState) : Type 0 where
  pub was_empty : cell_at pos.cells p ≡ Empty
  pub size : new.size ≡ pos.size
  pub cells : Removes pos.size (slice_set pos.cells p (stone_of c)) c new.cells
  pub alive : (l : ℕ) × IsLiberty pos.size new.cells p l

-- the stone that c puts at p has no liberty after its captures
pub record IsSuicide (pos : BoardState) (c : Colour) (p : ℕ) : Type 0 where
  pub was_empty : cell_at pos.cells p ≡ Empty
  pub dead : (after : List Cell) → Removes pos.size (slice_set pos.cells p (stone_of c)) c after → (l : ℕ)
      → IsLiberty pos.size after p l → ⊥

-- l is a liberty of the string of p, and the only one
pub record IsOnlyLiberty (s : ℕ) (cells : List Cell) (p l : ℕ) : Type 0 where
  pub its : IsLiberty s cells p l
  pub only : (k : ℕ) → IsLiberty s cells p k → k ≡ l

-- after c played at p, which left these cells, the other colour may not play at q: one stone was captured, it stood at
-- q, and the played stone is a string of one stone with one liberty
pub record LeavesBan (pos : BoardState) (c : Colour) (p : ℕ) (after : List Cell) (q : ℕ) : Type 0 where
  pub on_board : q < pos.size * pos.size
  pub taken : IsCaptured pos.size (slice_set pos.cells p (stone_of c)) c q
  pub one_taken : (r : ℕ) → r < pos.size * pos.size → IsCaptured pos.size (slice_set pos.cells p (stone_of c)) c r
      → r ≡ q
  pub stone_alone : (r : ℕ) → IsInString pos.size after p r → r ≡ p
  pub one_liberty : (l : ℕ) × IsOnlyLiberty pos.size after p l

-- the board has a legal size and a cell for each point, the string of each stone has a liberty, and the point of the
-- ban is on the board and empty
pub record IsPositionInWords (pos : BoardState) : Type 0 where
  pub size : IsSize pos.size
  pub cells : length pos.cells ≡ pos.size * pos.size
  pub alive : (p : ℕ) → p < pos.size * pos.size → cell_at pos.cells p ≢ Empty
      → (l : ℕ) × IsLiberty pos.size pos.cells p l
  pub ban : (q : ℕ) (c : Colour) → pos.ban ≡ Some (q, c) → (q < pos.size * pos.size) × (cell_at pos.cells q ≡ Empty)
