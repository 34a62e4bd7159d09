-- Drawn cells lie near the star.
use Rattle.std.proofs.Common.{◌≡◌, true, refl, arith, ℤ, pos, ◌-ℤ◌}
use Rattle.std.proofs.lemmas.Int.{ints}
use Rattle.go_rules.specs.Transform.{IsNear}
use Rattle.pat_types.specs.declared.cell.Drawn.{Drawn}
use Rattle.pat_types.specs.declared.cell.Drawn.TheVariants.{Nothing, OffBoard, Shows}
use Rattle.pat_types.specs.declared.pattern.Pattern.{Pattern}
use Rattle.pat_types.specs.Cells.{strip_at, drawn_by, drawn_at}
use Rattle.dfa_core.specs.Fits.{is_drawn}
use Rattle.dfa_core.proofs.Bounds.{strip_around, drawn_strips}

-- what is not nothing is drawn
something : (d : Drawn) → (d ≡ Nothing → ⊥) → is_drawn d ≡ true
something Nothing some = absurd (some refl)
something OffBoard some = refl
something (Shows l) some = refl

-- a drawn cell lies within the largest offset of the star
pub near_star : (p : Pattern) (r c : ℤ) → (drawn_at p r c ≡ Nothing → ⊥)
    → IsNear (r -ℤ pos p.star.0, c -ℤ pos p.star.1)
unfolding drawn_at
near_star p r c some =
    let row_strip = strip_at p.rows p.top p.bottom r in
    let column_strip = strip_at p.cols p.left p.right c in
    let strips = drawn_strips p row_strip column_strip (something (drawn_by p row_strip column_strip) some) in
    let row = strip_around p.rows p.top p.bottom r strips.0 in
    let column = strip_around p.cols p.left p.right c strips.1 in
    record {
      row_low = omega (arith, ints, row.low, p.diagram.star_row, p.diagram.rows_to);
      row_high = omega (arith, ints, row.high, p.diagram.rows_to);
      column_low = omega (arith, ints, column.low, p.diagram.star_column, p.diagram.columns_to);
      column_high = omega (arith, ints, column.high, p.diagram.columns_to);
    }
