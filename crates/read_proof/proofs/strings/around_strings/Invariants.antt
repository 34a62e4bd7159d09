use Rattle.std.specs.Prelude.{◌-◌}
use Rattle.go_rules.specs.Board.{largest_points}
use Rattle.wider_rules.proofs.StringLemmas.{GathersAround}
use Rattle.read_proof.proofs.strings.around_strings.Given as goal

-- what stands around the strings of the points came, but for the points that are left from the next one on
abbrev pub invariant-loop-q : goal.invariant-loop-q
invariant-loop-q l =
    GathersAround l.least l.most l.pos.size l.pos.cells l.points l.rest l.next l.found.liberties l.found.enemies

-- how many points are left
abbrev pub decreases-loop-q : goal.decreases-loop-q
decreases-loop-q l = largest_points - l.next
