use Rattle.std.proofs.Common.{arith}
use Rattle.go_base.proofs.AllowedPlays.{set_below-none, set_below-passes, set_below-fails, legal_points-all}
use Rattle.go_base.proofs.position.Position.legal_points.Goals as goal

-- no point was tried
pub loop-p-init : goal.loop-p-init
loop-p-init c = grind (arith, set_below-none)

-- one more point was tried, and the board is as it was
pub loop-p-preserved : goal.loop-p-preserved
loop-p-preserved c = grind (arith, set_below-passes, set_below-fails)

-- every point of the board was tried
pub returns : goal.returns
returns c = grind (arith, legal_points-all c.args.self.now c.args.c)
