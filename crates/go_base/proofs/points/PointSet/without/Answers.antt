use Rattle.std.proofs.Common.{arith}
use Rattle.go_base.proofs.Marks.{remove-absent}
use Rattle.go_base.proofs.points.PointSet.without.Goals as goal

-- a set that has not the point is the same without it
pub returns-else-has : goal.returns-else-has
returns-else-has c = grind (arith, remove-absent)
