use Rattle.std.specs.Prelude.{◌-◌}
use Rattle.std.specs.FinSet as set
use Rattle.go_rules.specs.Board.{largest_points}
use Rattle.go_rules.specs.Neighbourhood.{neighbourhood_of}
use Rattle.trial_board.proofs.WalkLemmas.{Walked}
use Rattle.wider_rules.proofs.StringLemmas.{GathersAround}
use Rattle.wider_moves.proofs.strings.around_strings.Given as goal

-- what stands around the strings of the points came, but for the points that are left from the next one on
abbrev pub invariant-loop-q : goal.invariant-loop-q
invariant-loop-q g l = Walked g.L.Look.shows g.L.Look.seen
    (λ s here. neighbourhood_of s here.cells (set.contains l.points))
    (λ s here. GathersAround l.least l.most s here.cells l.points l.rest l.next l.found.liberties l.found.enemies)
    l.fn.board l.board

-- how many points are left
abbrev pub decreases-loop-q : goal.decreases-loop-q
decreases-loop-q g l = largest_points - l.next
