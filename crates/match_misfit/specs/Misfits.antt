-- The first cell of a diagram that does not fit on a position, and the report on it.
use Rattle.std.specs.Prelude.{◌≡◌, ℕ, Bool, false, not, ℤ, pos, ◌-ℤ◌, List, map, find, Option, Some, None}
use Rattle.std.specs.Prelude.{option_map}
use Rattle.go_rules.specs.declared.Cell.{Cell}
use Rattle.go_rules.specs.declared.Colour.{Colour}
use Rattle.go_rules.specs.Position.{BoardState}
use Rattle.go_rules.specs.Strings.{cell_at}
use Rattle.pat_types.specs.declared.letter.Letter.{Letter}
use Rattle.pat_types.specs.declared.cell.Drawn.{Drawn}
use Rattle.pat_types.specs.declared.cell.Drawn.TheVariants.{OffBoard, Shows}
use Rattle.pat_types.specs.declared.pattern.Pattern.{Pattern}
use Rattle.pat_types.specs.Letters.{admits}
use Rattle.pat_types.specs.Cells.{drawn_at}
use Rattle.match_rules.specs.Fits.{place_of_cell, strip_cells, cells_of, cell_fits}
use Rattle.match_misfit.specs.declared.diagram.Misfit.{Misfit}

-- the cell in row i and column j, if these are counted from the edges, one before the first letter
abbrev pub cell_with : ℕ → ℕ → ℤ × ℤ
cell_with i j = (pos i -ℤ pos 1, pos j -ℤ pos 1)

-- the cells of row r, with the cells of the edges beside it
abbrev pub cells_of_row : Pattern → ℤ → List (ℤ × ℤ)
cells_of_row p r = map (λ c. (r, c)) (strip_cells p.cols)

-- whether the cell does not fit, with the star at m under t
abbrev pub is_misfit : Pattern → BoardState → Colour → ℕ → ℕ → ℤ × ℤ → Bool
is_misfit p board friend t m cell = not (cell_fits p board friend t m cell)

-- the first cell of the drawing, in reading order, that does not fit with the star at m under t
unfoldable pub first_cell : Pattern → BoardState → Colour → ℕ → ℕ → Option (ℤ × ℤ)
first_cell p board friend t m = find (is_misfit p board friend t m) (cells_of p)

-- the point, if there is one, and what stands there
abbrev pub what_stands : BoardState → Option ℕ → Option (ℕ × Cell)
what_stands board None = None
what_stands board (Some q) = Some (q, cell_at board.cells q)

-- the report on a cell of the drawing, with the star at m under t: its row and column, what is drawn there, the point
-- at which it lies and what stands there
abbrev pub misfit_of : Pattern → BoardState → ℕ → ℕ → ℤ × ℤ → Misfit
misfit_of p board t m cell = record {
  row = cell.0;
  column = cell.1;
  drawn = drawn_at p cell.0 cell.1;
  there = what_stands board (place_of_cell p board.size t m cell.0 cell.1);
}

-- the report on the first cell that does not fit, if there is one
abbrev pub first_misfit : Pattern → BoardState → Colour → ℕ → ℕ → Option Misfit
first_misfit p board friend t m = option_map (misfit_of p board t m) (first_cell p board friend t m)

-- what is drawn does not fit over what stands there: a letter lies off the board, a letter lies over something that it
-- does not admit, or an edge lies on the board
pub data FailsToFit (friend : Colour) : Drawn → Option (ℕ × Cell) → Type 0 where
  letter_off_board : (l : Letter) → FailsToFit friend (Shows l) None
  not_admitted : (l : Letter) (q : ℕ) (cell : Cell) → admits l cell friend ≡ false
      → FailsToFit friend (Shows l) (Some (q, cell))
  edge_on_board : (q : ℕ) (cell : Cell) → FailsToFit friend OffBoard (Some (q, cell))

-- z is a true report on a cell of the drawing that does not fit, with the star at m under t: what is drawn there, the
-- point to which the transformation moves it, and what stands at that point
pub record IsMisfit (p : Pattern) (board : BoardState) (friend : Colour) (t m : ℕ) (z : Misfit) : Type 0 where
  pub drawn : z.drawn ≡ drawn_at p z.row z.column
  pub there : z.there ≡ what_stands board (place_of_cell p board.size t m z.row z.column)
  pub fails : FailsToFit friend z.drawn z.there
