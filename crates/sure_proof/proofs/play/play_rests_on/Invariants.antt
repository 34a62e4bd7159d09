use Rattle.std.proofs.Common.{◌≡◌}
use Rattle.go_base.specs.Sides.{neighbour_at}
use Rattle.sure_proof.specs.Rests.{union_below, shows_neighbour}
use Rattle.sure_proof.proofs.play.play_rests_on.Given as goal

-- what shows the neighbours on the sides so far came
abbrev pub invariant-sides : goal.invariant-sides
invariant-sides l = l.points ≡ union_below l.side
    (λ k. shows_neighbour l.pos.size l.pos.cells l.c l.free l.near (neighbour_at l.pos.size l.p k))
