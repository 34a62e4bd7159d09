use Rattle.std.proofs.Common.{◌≡◌, true}
use Rattle.go_rules.specs.Below.{set_below}
use Rattle.sure_proof.proofs.candidate.all_points.Given as goal

-- the points so far came
abbrev pub invariant-points : goal.invariant-points
invariant-points l = l.points ≡ set_below l.p (λ q. true)
