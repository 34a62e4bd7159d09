-- The loop over the points of a board.
use Rattle.std.proofs.Common.{◌∙◌, true, arith}
use Rattle.std.specs.FinSet as set
use Rattle.go_rules.proofs.Sets.{set_below-none, set_below-hit}
use Rattle.sure_proof.proofs.candidate.all_points.Goals as goal

-- no point came yet
pub points-init : goal.points-init
points-init c = c.new-points.ensures ∙ set_below-none (λ q. true)

-- the next one comes
pub points-preserved : goal.points-preserved
points-preserved c = grind (arith, set_below-hit)
