use Rattle.std.proofs.Common.{◌∙◌, refl, arith}
use Rattle.std.proofs.lemmas.Int.{ints}
use Rattle.spiral.proofs.Places.{placed, moved_by}
use Rattle.spiral.proofs.moving.place_beside.Goals as goal

-- the moved offset is a step from the row and the column of the point
pub returns-clause-value : goal.returns-clause-value
returns-clause-value c = λ from row column.
    let moved = moved_by c.args.t c.args.offset c.args.offset c.apply.result _ _ refl (omega (arith, ints))
    (omega (arith, ints)) c.apply.ensures.value in
    c.stepped.ensures.value
    ∙ placed c.args.size c.args.size c.args.t from c.args.row c.args.column c.args.offset c.apply.result _ _ refl row
    column moved refl refl
