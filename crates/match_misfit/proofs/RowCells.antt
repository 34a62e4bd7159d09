-- The first cell of a drawing that does not fit, from the cells before it.
use Rattle.std.proofs.Common.{◌≡◌, ℕ, ◌+◌, ◌<◌, true, false, [], ◌∷◌, Some, None, refl, sym, ap, ◌∙◌, arith, ℤ}
use Rattle.std.proofs.Common.{pos, ◌-ℤ◌, Option, IsNone, IsTrue, subst}
use Rattle.std.proofs.lemmas.Bool.{false≢true}
use Rattle.std.specs.List.{find}
use Rattle.std.proofs.lemmas.List.Concat.{flat_map_single}
use Rattle.go_rules.specs.declared.Colour.{Colour}
use Rattle.go_rules.specs.Position.{BoardState}
use Rattle.pat_types.specs.declared.pattern.Pattern.{Pattern}
use Rattle.match_rules.specs.Fits.{strip_cells, cell_fits, fits}
use Rattle.match_misfit.specs.declared.diagram.Misfit.{Misfit}
use Rattle.match_misfit.specs.Misfits.{cell_with, cells_of_row, is_misfit, first_cell}
use Rattle.match_misfit.proofs.FirstCells.{first_of_strip, none_of_strips, passes_alone, fails_alone, all_pass}
use Rattle.match_misfit.proofs.FirstCells.{none_fails}

module _ (p : Pattern) (board : BoardState) (friend : Colour) (t m : ℕ) where
  -- the first cell of a row that does not fit
  pub first_in_row : (i j : ℕ) → j < p.cols + 2
      → ((k : ℕ) → k < j → cell_fits p board friend t m (cell_with i k) ≡ true)
      → cell_fits p board friend t m (cell_with i j) ≡ false
      → find (is_misfit p board friend t m) (cells_of_row p (pos i -ℤ pos 1)) ≡ Some (cell_with i j)
  first_in_row i j low before here =
      let row : ℤ → ℤ × ℤ = λ c. (pos i -ℤ pos 1, c) in
      ap (find (is_misfit p board friend t m)) (sym (flat_map_single row (strip_cells p.cols)))
      ∙ first_of_strip (is_misfit p board friend t m) (λ c. row c ∷ []) (λ k. pos k -ℤ pos 1) 0 (p.cols + 2) j j
      (cell_with i j) low (omega arith)
      (λ k below. passes_alone (cell_fits p board friend t m) (cell_with i k) (before k below))
      (fails_alone (cell_fits p board friend t m) (cell_with i j) here)

  -- a row whose cells fit has none
  pub none_in_row : (i : ℕ) → ((k : ℕ) → k < p.cols + 2 → cell_fits p board friend t m (cell_with i k) ≡ true)
      → find (is_misfit p board friend t m) (cells_of_row p (pos i -ℤ pos 1)) ≡ None
  none_in_row i each =
      let row : ℤ → ℤ × ℤ = λ c. (pos i -ℤ pos 1, c) in
      ap (find (is_misfit p board friend t m)) (sym (flat_map_single row (strip_cells p.cols)))
      ∙ none_of_strips (is_misfit p board friend t m) (λ c. row c ∷ []) (λ k. pos k -ℤ pos 1) 0 (p.cols + 2)
      (λ k below. passes_alone (cell_fits p board friend t m) (cell_with i k) (each k (omega (arith, below))))

  -- the first cell that does not fit is that of the first row that has one
  pub first_of_rows : (i : ℕ) (cell : ℤ × ℤ) → i < p.rows + 2
      → ((k : ℕ) → k < i → find (is_misfit p board friend t m) (cells_of_row p (pos k -ℤ pos 1)) ≡ None)
      → find (is_misfit p board friend t m) (cells_of_row p (pos i -ℤ pos 1)) ≡ Some cell
      → first_cell p board friend t m ≡ Some cell
  unfolding first_cell
  first_of_rows i cell low before here =
      first_of_strip (is_misfit p board friend t m) (cells_of_row p) (λ k. pos k -ℤ pos 1) 0 (p.rows + 2) i i cell low
      (omega arith) before here

  -- every cell fits if those of each row do
  pub none_of_rows : ((k : ℕ) → k < p.rows + 2
      → find (is_misfit p board friend t m) (cells_of_row p (pos k -ℤ pos 1)) ≡ None)
      → first_cell p board friend t m ≡ None
  unfolding first_cell
  none_of_rows none =
      none_of_strips (is_misfit p board friend t m) (cells_of_row p) (λ k. pos k -ℤ pos 1) 0 (p.rows + 2)
      (λ k below. none k (omega (arith, below)))

  -- if every cell fits, the pattern does
  pub fits_without : first_cell p board friend t m ≡ None → fits p board friend t m ≡ true
  unfolding first_cell fits
  fits_without none = all_pass (cell_fits p board friend t m) _ none

  -- if the pattern fits, every cell does
  pub none_if_it_fits : fits p board friend t m ≡ true → first_cell p board friend t m ≡ None
  unfolding first_cell fits
  none_if_it_fits all = none_fails (cell_fits p board friend t m) _ all

  -- without such a cell nothing is told, and the pattern fits
  pub nothing_told : (o : Option Misfit) → o ≡ None → first_cell p board friend t m ≡ None
      → (IsNone o → IsTrue (fits p board friend t m)) × (IsTrue (fits p board friend t m) → IsNone o)
  nothing_told o e none = (λ _. fits_without none, λ _. subst IsNone (sym e) refl)

  -- with such a cell the pattern does not fit
  pub something_told : (cell : ℤ × ℤ) (z : Misfit) → first_cell p board friend t m ≡ Some cell
      → (IsNone (Some z) → IsTrue (fits p board friend t m)) × (IsTrue (fits p board friend t m) → IsNone (Some z))
  something_told cell z some = (
    λ told. absurd (false≢true (sym told)),
    λ all. let h : Some cell ≡ None = sym some ∙ none_if_it_fits all in cc,
  )
