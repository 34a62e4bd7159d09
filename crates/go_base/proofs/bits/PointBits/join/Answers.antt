use Rattle.std.proofs.Common.{arith}
use Rattle.go_base.proofs.JoinedMarks.{both_none, both_next, both_all}
use Rattle.go_base.proofs.bits.PointBits.join.Goals as goal

-- no word has the bits of both yet
pub loop-i-init : goal.loop-i-init
loop-i-init c = both_none _ _ c.self.told

-- one more has them
pub loop-i-preserved : goal.loop-i-preserved
loop-i-preserved c =
    both_next c.self.inside.words c.other.inside.words c.loop-i.self-inside.words c.loop-i.i
    c.loop-i-test.true c.loop-i.invariant

-- all have them
pub returns : goal.returns
returns c = grind (arith, both_all)
