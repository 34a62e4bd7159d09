use Rattle.std.proofs.Common.{arith}
use Rattle.go_base.proofs.Setups.{common_counted}
use Rattle.go_base.proofs.setup.has_common_point.Goals as goal

-- a point is in both sets if they have one in common
pub returns : goal.returns
returns c = grind (arith, common_counted)
