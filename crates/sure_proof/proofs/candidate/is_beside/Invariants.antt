use Rattle.std.proofs.Common.{◌≡◌, ◌<◌, ℕ, false, Some}
use Rattle.std.specs.FinSet as set
use Rattle.go_base.specs.Sides.{neighbour_at}
use Rattle.sure_proof.proofs.candidate.is_beside.Given as goal

-- no side so far is in the set
abbrev pub invariant-loop-side : goal.invariant-loop-side
invariant-loop-side l =
    (k r : ℕ) → k < l.side → neighbour_at l.size l.q k ≡ Some r → set.contains l.points r ≡ false
