-- The walk over the zone.
use Rattle.sure_proof.proofs.GuardLemmas.{gathered_same, gather_none, all_asked, all_guard}
use Rattle.sure_proof.proofs.guard.guard_zone.Goals as goal

-- nothing is gathered yet
pub points-init : goal.points-init
points-init c = gathered_same c.new.ensures c.new-2.ensures c.new-3.ensures
    (gather_none c.args.pos.now.size c.args.pos.now.cells c.args.c c.args.zone.now)

-- the next point is served
pub points-preserved : goal.points-preserved
points-preserved c = c.visit.ensures c.points.from c.points.invariant c.in-Some.ensures.some.3

-- all replies were gathered
pub returns-clause-asked : goal.returns-clause-asked
returns-clause-asked c = all_asked c.args.pos.now.size c.args.pos.now.cells c.args.c c.args.zone.now c.points.from
    c.points.so_far.asked c.points.so_far.guard c.points.so_far.searched c.points.invariant c.in_default.ensures.none

-- and all points that guard the zone
pub returns-clause-guard : goal.returns-clause-guard
returns-clause-guard c = all_guard c.args.pos.now.size c.args.pos.now.cells c.args.c c.args.zone.now c.points.from
    c.points.so_far.asked c.points.so_far.guard c.points.so_far.searched c.points.invariant c.in_default.ensures.none
