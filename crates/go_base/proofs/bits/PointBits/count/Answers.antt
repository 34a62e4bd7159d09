use Rattle.std.proofs.Common.{arith}
use Rattle.go_base.proofs.CountedWords.{counted_next, counted_few, counted_all, bits_set_few}
use Rattle.go_base.proofs.bits.PointBits.count.Goals as goal

-- no more bits are set than there are
pub overflow_add-count : goal.overflow_add-count
overflow_add-count c = grind (arith, counted_few, bits_set_few)

-- the points of one word more are counted
pub loop-i-preserved : goal.loop-i-preserved
loop-i-preserved c = grind (arith, counted_next)

-- the bits of all words are counted
pub returns : goal.returns
returns c = grind (arith, counted_all c.self.inside.words c.loop-i.i c.loop-i.count)
