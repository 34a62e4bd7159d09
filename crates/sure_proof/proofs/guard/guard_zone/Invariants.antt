-- The walk over the zone.
use Rattle.std.proofs.Common.{◌-◌}
use Rattle.go_rules.specs.Board.{largest_points}
use Rattle.sure_proof.specs.Gathered.{IsGathered}
use Rattle.sure_proof.proofs.guard.guard_zone.Given as goal

-- the points so far were served
abbrev pub invariant-points : goal.invariant-points
invariant-points l = IsGathered l.pos.size l.pos.cells l.c l.zone l.from l.so_far.asked l.so_far.guard l.so_far.searched

-- how many points are left
abbrev pub decreases-points : goal.decreases-points
decreases-points l = largest_points - l.from
