use Rattle.std.specs.Prelude.{◌-◌, ◌&&◌}
use Rattle.std.specs.FinSet as set
use Rattle.go_rules.specs.Board.{largest_points}
use Rattle.go_rules.specs.Neighbourhood.{neighbourhood_of}
use Rattle.trial_board.proofs.WalkLemmas.{Walked}
use Rattle.wider_rules.specs.Cramped.{foe_of, is_cramped}
use Rattle.wider_rules.specs.Strings.{holds_next}
use Rattle.wider_moves.proofs.AddLemmas.{AddsBelow}
use Rattle.wider_moves.proofs.approach.beside_cramped.Given as goal

-- the enemy stones next to the cramped points below the next one came
abbrev pub invariant-loop-l : goal.invariant-loop-l
invariant-loop-l g l = Walked g.L.Look.shows g.L.Look.seen
    (λ s here. neighbourhood_of s here.cells (neighbourhood_of s here.cells (set.contains l.points)))
    (λ s here. AddsBelow (λ k r. is_cramped s here.cells l.own k && holds_next s here.cells (foe_of l.own) k r) l.points
    set.empty l.next l.found) l.fn.board l.board

-- how many points are left
abbrev pub decreases-loop-l : goal.decreases-loop-l
decreases-loop-l g l = largest_points - l.next
