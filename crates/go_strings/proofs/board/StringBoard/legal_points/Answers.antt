use Rattle.std.proofs.Common.{arith}
use Rattle.go_rules.specs.Play.{is_legal}
use Rattle.go_base.proofs.AllowedPlays.{set_below-none, set_below-passes, set_below-fails, legal_points-all}
use Rattle.go_strings.specs.Games.{reached}
use Rattle.go_strings.proofs.board.StringBoard.legal_points.Goals as goal

-- no point was tried yet
pub loop-p-init : goal.loop-p-init
loop-p-init c = set_below-none (is_legal (reached c.args.self.now) c.args.c) _ c.new-found.ensures

-- one more was
pub loop-p-preserved : goal.loop-p-preserved
loop-p-preserved c = grind (arith, set_below-passes, set_below-fails)

-- all were
pub returns : goal.returns
returns c = grind (arith, legal_points-all (reached c.args.self.now) c.args.c)
