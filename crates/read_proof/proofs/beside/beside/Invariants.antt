use Rattle.std.proofs.Common.{◌≡◌, ℕ, ◌&&◌, eqb}
use Rattle.std.specs.FinSet as set
use Rattle.go_rules.specs.Below.{any_below}
use Rattle.read_proof.specs.Beside.{stands_beside}
use Rattle.read_proof.proofs.beside.beside.Given as goal

-- the points beside the set came, as far as they were tried
abbrev pub invariant-loop-p : goal.invariant-loop-p
invariant-loop-p l = (r : ℕ) → set.contains l.found r ≡ any_below l.p (λ k.
    eqb r k && stands_beside l.pos.size l.pos.cells l.cell (set.contains l.points) k)
