use Rattle.std.proofs.Common.{◌≡◌, ℕ, ◌&&◌, ◌*◌, eqb, ltb}
use Rattle.std.specs.FinSet as set
use Rattle.go_rules.specs.Below.{any_below}
use Rattle.wider_rules.specs.Cramped.{is_cramped}
use Rattle.read_proof.proofs.approach.cramped.Given as goal

-- the points of the set that are cramped came, as far as they were tried
abbrev pub invariant-loop-l : goal.invariant-loop-l
invariant-loop-l l = (r : ℕ) → set.contains l.found r ≡ any_below l.l (λ k.
    eqb r k && (ltb k (l.pos.size * l.pos.size)
    && (set.contains l.points k && is_cramped l.pos.size l.pos.cells l.own k)))
