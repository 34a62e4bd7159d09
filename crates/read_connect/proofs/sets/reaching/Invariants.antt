use Rattle.std.proofs.Common.{◌-◌}
use Rattle.go_rules.specs.Board.{largest_points}
use Rattle.read_connect.specs.Stages.{reaches_among}
use Rattle.go_base.proofs.FilteredSets.{PassedBelow}
use Rattle.read_connect.proofs.sets.reaching.Given as goal

-- the members below the next point that pass came
abbrev pub invariant-loop-p : goal.invariant-loop-p
invariant-loop-p l = PassedBelow (reaches_among l.size l.points l.others) l.next l.found

-- how many points are left
abbrev pub decreases-loop-p : goal.decreases-loop-p
decreases-loop-p l = largest_points - l.next
