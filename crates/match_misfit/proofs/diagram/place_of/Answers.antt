use Rattle.std.proofs.Common.{◌∙◌, refl, ap, arith, pos, ◌-ℤ◌}
use Rattle.std.proofs.lemmas.Int.{ints}
use Rattle.spiral.specs.Spiral.{place_at}
use Rattle.spiral.proofs.Places.{offset_by_parts}
use Rattle.match_misfit.proofs.StarCells.{near_star}
use Rattle.match_misfit.proofs.diagram.place_of.Goals as goal

-- a drawn cell is near the star
pub place_from-requires-clause-near : goal.place_from-requires-clause-near
place_from-requires-clause-near c =
    let near = near_star c.args.p.now (pos c.args.i -ℤ pos 1) (pos c.args.j -ℤ pos 1) c.requires.drawn in
    record {
      row_low = omega (arith, ints, near.row_low, c.args.p.now.diagram.rows_to, c.requires.row);
      row_high = omega (arith, ints, near.row_high, c.args.p.now.diagram.rows_to, c.requires.row);
      column_low = omega (arith, ints, near.column_low, c.args.p.now.diagram.columns_to, c.requires.column);
      column_high = omega (arith, ints, near.column_high, c.args.p.now.diagram.columns_to, c.requires.column);
    }

-- the offset is that of the cell from the star
pub returns-clause-value : goal.returns-clause-value
returns-clause-value c =
    c.place_from.ensures.value
    ∙ ap (place_at c.args.size c.args.t c.args.at)
    (offset_by_parts _ _ _ _ (
      (pos c.args.i -ℤ pos 1) -ℤ pos c.args.p.now.star.0,
      (pos c.args.j -ℤ pos 1) -ℤ pos c.args.p.now.star.1,
    ) refl
    (omega (arith, ints, c.requires.row, c.args.p.now.diagram.star_row, c.args.p.now.diagram.rows_to))
    (omega (arith, ints, c.requires.column, c.args.p.now.diagram.star_column, c.args.p.now.diagram.columns_to)))
