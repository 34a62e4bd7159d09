-- When a pattern fits on a position, after "The Pattern Code" of the GNU Go Manual: its diagram is moved by a
-- transformation so that the star stands at a point, and every letter and every edge is compared with the board.
use Rattle.std.specs.Prelude.{◌≡◌, ℕ, ◌+◌, ◌*◌, ◌<◌, Bool, true, false, ℤ, pos, ◌-ℤ◌, List, map, Option, Some, None}
use Rattle.std.specs.Prelude.{slice_index_or}
use Rattle.std.specs.List.{list_all, flat_map, range_with_len}
use Rattle.go_rules.specs.declared.Colour.{Colour}
use Rattle.go_rules.specs.Position.{BoardState}
use Rattle.go_rules.specs.Strings.{cell_at}
use Rattle.spiral.specs.Spiral.{place_at}
use Rattle.pat_types.specs.declared.letter.Letter.{Letter}
use Rattle.pat_types.specs.declared.letter.Letter.TheVariants.{Friend}
use Rattle.pat_types.specs.declared.cell.Drawn.{Drawn}
use Rattle.pat_types.specs.declared.cell.Drawn.TheVariants.{Nothing, OffBoard, Shows}
use Rattle.pat_types.specs.declared.pattern.Pattern.{Pattern}
use Rattle.pat_types.specs.Letters.{admits}
use Rattle.pat_types.specs.Cells.{drawn_at}

-- the point of a board of size s at which the cell in row r and column c of the diagram lies, with the star at m under
-- t
abbrev pub place_of_cell : Pattern → ℕ → ℕ → ℕ → ℤ → ℤ → Option ℕ
place_of_cell p s t m r c = place_at s t m (r -ℤ pos p.star.0, c -ℤ pos p.star.1)

-- the letter in row r and column c of the diagram
abbrev pub letter_at : Pattern → ℕ → ℕ → Letter
letter_at p r c = slice_index_or p.letters (r * p.cols + c) Friend

-- the cell in row r and column c is drawn as one off the board: it lies on a drawn edge, or in the corner of two edges
abbrev pub IsDrawnOff : Pattern → ℤ → ℤ → Type 0
IsDrawnOff p r c = drawn_at p r c ≡ OffBoard

-- the letter in row r and column c lies on the board and admits what stands there, with the star at m under t
pub record LetterFits (p : Pattern) (board : BoardState) (friend : Colour) (t m r c : ℕ) : Type 0 where
  pub point : ℕ
  pub place : place_of_cell p board.size t m (pos r) (pos c) ≡ Some point
  pub admitted : admits (letter_at p r c) (cell_at board.cells point) friend ≡ true

-- the pattern fits at m under t: every letter of its diagram lies on the board and admits what stands there, and every
-- edge cell lies off the board
pub record Fits (p : Pattern) (board : BoardState) (friend : Colour) (t m : ℕ) : Type 0 where
  pub letters : (r c : ℕ) → r < p.rows → c < p.cols → LetterFits p board friend t m r c
  pub edges : (r c : ℤ) → IsDrawnOff p r c → place_of_cell p board.size t m r c ≡ None

-- the cells of one strip of n letters, with the cell before them and the cell after them
abbrev pub strip_cells : ℕ → List ℤ
strip_cells n = map (λ k. pos k -ℤ pos 1) (range_with_len 0 (n + 2))

-- the cells in which the diagram may draw something: its rows and columns, and one more row and column on each side
abbrev pub cells_of : Pattern → List (ℤ × ℤ)
cells_of p = flat_map (λ r. map (λ c. (r, c)) (strip_cells p.cols)) (strip_cells p.rows)

-- whether what is drawn fits at a place: a letter on the board if it admits what stands there, an edge cell only off
-- the board, and a cell in which nothing is drawn at any place
abbrev pub drawn_fits : Drawn → BoardState → Colour → Option ℕ → Bool
drawn_fits Nothing board friend place = true
drawn_fits OffBoard board friend None = true
drawn_fits OffBoard board friend (Some q) = false
drawn_fits (Shows l) board friend None = false
drawn_fits (Shows l) board friend (Some q) = admits l (cell_at board.cells q) friend

-- whether what is drawn in a cell fits at its place, with the star at m under t
abbrev pub cell_fits : Pattern → BoardState → Colour → ℕ → ℕ → ℤ × ℤ → Bool
cell_fits p board friend t m cell =
    drawn_fits (drawn_at p cell.0 cell.1) board friend (place_of_cell p board.size t m cell.0 cell.1)

-- whether the pattern fits at m under t: each of its cells fits
unfoldable pub fits : Pattern → BoardState → Colour → ℕ → ℕ → Bool
fits p board friend t m = list_all (cell_fits p board friend t m) (cells_of p)
