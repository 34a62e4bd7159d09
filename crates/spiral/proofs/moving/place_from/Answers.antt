use Rattle.std.proofs.Common.{arith}
use Rattle.std.proofs.lemmas.Int.{ints}
use Rattle.spiral.proofs.Places.{offset_by_parts}
use Rattle.spiral.proofs.moving.place_from.Goals as goal

-- the step is made from the row and the column of the point
pub returns-clause-value : goal.returns-clause-value
returns-clause-value c = grind (arith, offset_by_parts, ints)
