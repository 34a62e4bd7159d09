use Rattle.std.proofs.Common.{◌≡◌, ◌<◌, ℕ, false}
use Rattle.go_base.specs.Sides.{neighbour_at}
use Rattle.sure_proof.specs.Rests.{is_empty_at}
use Rattle.sure_proof.proofs.play.has_empty_neighbour.Given as goal

-- no side so far has an empty neighbour
abbrev pub invariant-loop-side : goal.invariant-loop-side
invariant-loop-side l = (k : ℕ) → k < l.side → is_empty_at l.pos.cells (neighbour_at l.pos.size l.p k) ≡ false
