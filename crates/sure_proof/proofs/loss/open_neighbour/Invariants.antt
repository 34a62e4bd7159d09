use Rattle.std.proofs.Common.{◌≡◌, ◌<◌, ℕ, false}
use Rattle.go_base.specs.Sides.{neighbour_at}
use Rattle.sure_proof.specs.Rests.{is_open}
use Rattle.sure_proof.proofs.loss.open_neighbour.Given as goal

-- no side so far has an open neighbour
abbrev pub invariant-loop-side : goal.invariant-loop-side
invariant-loop-side l = (k : ℕ) → k < l.side → is_open l.pos.cells l.c (neighbour_at l.pos.size l.p k) ≡ false
