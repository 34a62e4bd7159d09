-- What is told of a cell that fails the test of a fit.
use Rattle.std.proofs.Common.{◌≡◌, ℕ, Bool, true, false, List, [], ◌∷◌, Option, Some, None, refl, sym}
use Rattle.std.proofs.Common.{ℤ, subst, option_map, arith}
use Rattle.std.specs.List.{find}
use Rattle.std.proofs.lemmas.Bool.{false≢true, not-true}
use Rattle.std.proofs.lemmas.Option.{none-some, same_Some}
use Rattle.go_rules.specs.declared.Colour.{Colour}
use Rattle.go_rules.specs.Position.{BoardState}
use Rattle.go_rules.specs.Strings.{cell_at}
use Rattle.pat_types.specs.declared.cell.Drawn.{Drawn}
use Rattle.pat_types.specs.declared.cell.Drawn.TheVariants.{Nothing, OffBoard, Shows}
use Rattle.pat_types.specs.declared.pattern.Pattern.{Pattern}
use Rattle.pat_types.specs.Cells.{drawn_at}
use Rattle.match_rules.specs.Fits.{place_of_cell, cells_of, drawn_fits, cell_fits}
use Rattle.match_misfit.specs.declared.diagram.Misfit.{Misfit}
use Rattle.match_misfit.specs.Misfits.{is_misfit, first_cell, what_stands, misfit_of, first_misfit, FailsToFit}
use Rattle.match_misfit.specs.Misfits.{IsMisfit, letter_off_board, not_admitted, edge_on_board}

-- what is found passes the test
found_passes : {Z : Type 0} (test : Z → Bool) (zs : List Z) (z : Z) → find test zs ≡ Some z → test z ≡ true
found_passes test [] z e = absurd (none-some z e)
found_passes test (y ∷ zs) z e = grind (arith, same_Some, found_passes test zs z)

-- what is drawn over what it does not fit fails in one of three ways
fails_in_words : (board : BoardState) (friend : Colour) (d : Drawn) (place : Option ℕ)
    → drawn_fits d board friend place ≡ false → FailsToFit friend d (what_stands board place)
fails_in_words board friend Nothing place e = absurd (false≢true (sym e))
fails_in_words board friend OffBoard None e = absurd (false≢true (sym e))
fails_in_words board friend OffBoard (Some q) e = edge_on_board q (cell_at board.cells q)
fails_in_words board friend (Shows l) None e = letter_off_board l
fails_in_words board friend (Shows l) (Some q) e = not_admitted l q (cell_at board.cells q) e

module _ (p : Pattern) (board : BoardState) (friend : Colour) (t m : ℕ) where
  -- what is told of a cell that does not fit
  told_in_words : (cell : ℤ × ℤ) → cell_fits p board friend t m cell ≡ false
      → IsMisfit p board friend t m (misfit_of p board t m cell)
  told_in_words cell fails = record {
    drawn = refl;
    there = refl;
    fails = fails_in_words board friend (drawn_at p cell.0 cell.1)
        (place_of_cell p board.size t m cell.0 cell.1) fails;
  }

  -- the first cell that does not fit is told of
  by_first : (first : Option (ℤ × ℤ)) (z : Misfit) → first_cell p board friend t m ≡ first
      → option_map (misfit_of p board t m) first ≡ Some z → IsMisfit p board friend t m z
  unfolding first_cell
  by_first None z is e = absurd (none-some z e)
  by_first (Some cell) z is e =
      subst (IsMisfit p board friend t m) (same_Some (misfit_of p board t m cell) z e)
      (told_in_words cell (not-true (cell_fits p board friend t m cell)
      (found_passes (is_misfit p board friend t m) (cells_of p) cell is)))

-- what is told of a misfit is so
pub is_misfit_in_words : (p : Pattern) (board : BoardState) (friend : Colour) (t m : ℕ) (z : Misfit)
    → first_misfit p board friend t m ≡ Some z → IsMisfit p board friend t m z
is_misfit_in_words p board friend t m z e =
    by_first p board friend t m (first_cell p board friend t m) z refl e
