use Rattle.std.proofs.Common.{arith}
use Rattle.trial_board.proofs.CapturedLemmas.{points_in-has, points_in-more}
use Rattle.trial_board.proofs.captured.points_in.Goals as goal

-- no place is before the first
pub loop-i-init : goal.loop-i-init
loop-i-init c = c.new-points.ensures

-- the place has one of the points
pub add-requires : goal.add-requires
add-requires c = c.requires.small _ (points_in-has c.args.row.now c.args.first c.args.n c.loop-i.i c.loop-i-test.true)

-- one more
pub loop-i-preserved : goal.loop-i-preserved
loop-i-preserved c = grind (arith, points_in-more)

-- each place was come to
pub returns : goal.returns
returns c = grind arith
