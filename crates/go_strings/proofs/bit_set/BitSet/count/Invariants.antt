use Rattle.std.proofs.Common.{◌-◌}
use Rattle.go_rules.specs.Board.{largest_points}
use Rattle.go_strings.proofs.SetCopies.{CountedBelow}
use Rattle.go_strings.proofs.bit_set.BitSet.count.Given as goal

-- the members below the next point are counted
abbrev pub invariant-loop-q : goal.invariant-loop-q
invariant-loop-q l = CountedBelow l.self l.next l.count

-- how many points are left
abbrev pub decreases-loop-q : goal.decreases-loop-q
decreases-loop-q l = largest_points - l.next
