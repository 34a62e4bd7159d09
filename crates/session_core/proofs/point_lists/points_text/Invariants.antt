use Rattle.std.proofs.Common.{◌-◌}
use Rattle.session_core.proofs.Texts.{SoFar}
use Rattle.session_core.proofs.point_lists.points_text.Given as goal

-- the members below the next point were put
abbrev pub invariant-loop-p : goal.invariant-loop-p
invariant-loop-p l = SoFar l.size l.points l.end l.next l.text

-- how many points are left
abbrev pub decreases-loop-p : goal.decreases-loop-p
decreases-loop-p l = l.end - l.next
