use Rattle.std.proofs.Common.{arith}
use Rattle.go_base.proofs.Marks.{difference-none, marked-difference}
use Rattle.go_base.proofs.points.PointSet.difference.Goals as goal

-- the points whose bits are set are those of the one set and not of the other
pub returns : goal.returns
returns c = grind (arith, marked-difference)

-- no members are none of those that the other set has not
pub returns-then-self-eq0 : goal.returns-then-self-eq0
returns-then-self-eq0 c = grind (arith, difference-none)
