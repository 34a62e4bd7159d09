use Rattle.std.proofs.Common.{arith}
use Rattle.go_base.proofs.Marks.{is_marked-without_bit_same, is_marked-without_bit_other}
use Rattle.go_base.proofs.bits.PointBits.remove.Goals as goal

-- the bit of p is not set
pub returns-clause-here : goal.returns-clause-here
returns-clause-here c = grind (arith, is_marked-without_bit_same)

-- and each other is as it was
pub returns-clause-elsewhere : goal.returns-clause-elsewhere
returns-clause-elsewhere c = grind (arith, is_marked-without_bit_other)
