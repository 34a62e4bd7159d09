use Rattle.std.proofs.Common.{arith}
use Rattle.pattern_coverage.proofs.ListCounts.{filtered-longer, filtered-same}
use Rattle.pattern_coverage.proofs.blocked.blocked_points.Goals as goal
use Rattle.pattern_coverage.proofs.blocked.blocked_points.Goals.{then-is_blocked+in_ok-push}

-- the next point is put behind the others if it is blocked
pub points-preserved : goal.points-preserved
points-preserved c = grind (arith, then-is_blocked+in_ok-push, filtered-longer, filtered-same)
