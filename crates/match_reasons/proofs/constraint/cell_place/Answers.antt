use Rattle.std.proofs.Common.{◌∙◌, refl, ap, arith, pos, ◌-ℤ◌}
use Rattle.std.proofs.lemmas.Int.{ints}
use Rattle.spiral.specs.Spiral.{place_at}
use Rattle.spiral.proofs.Places.{offset_by_parts}
use Rattle.match_reasons.proofs.constraint.cell_place.Goals as goal

-- the offset is that of the cell from the star
pub returns : goal.returns
returns c =
    c.place_from.ensures.value
    ∙ ap (place_at c.args.size c.args.t c.args.star)
    (offset_by_parts _ _ _ _ (
      pos c.args.row -ℤ pos c.args.p.now.star.0,
      pos c.args.column -ℤ pos c.args.p.now.star.1,
    ) refl
    (omega (arith, ints, c.args.p.now.diagram.star_row, c.args.p.now.diagram.rows_to))
    (omega (arith, ints, c.args.p.now.diagram.star_column, c.args.p.now.diagram.columns_to)))
