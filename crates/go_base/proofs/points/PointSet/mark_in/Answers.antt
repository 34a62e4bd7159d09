use Rattle.std.proofs.Common.{arith}
use Rattle.go_base.proofs.Marks.{marked-both}
use Rattle.go_base.proofs.points.PointSet.mark_in.Goals as goal

-- what is marked then is what was marked and the members
pub returns : goal.returns
returns c = grind (arith, marked-both)
