use Rattle.std.proofs.Common.{arith}
use Rattle.go_base.proofs.Marks.{marked-intersection}
use Rattle.go_base.proofs.points.PointSet.intersection.Goals as goal

-- the points whose bits are set are those of both sets
pub returns : goal.returns
returns c = grind (arith, marked-intersection)
