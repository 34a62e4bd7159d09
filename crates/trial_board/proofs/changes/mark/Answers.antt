use Rattle.std.proofs.Common.{arith}
use Rattle.go_base.proofs.Marks.{is_marked-with_bit_same, is_marked-with_bit_other}
use Rattle.trial_board.proofs.changes.mark.Goals as goal

-- the bit of p is set
pub returns-clause-here : goal.returns-clause-here
returns-clause-here c = grind (arith, is_marked-with_bit_same)

-- and no other
pub returns-clause-elsewhere : goal.returns-clause-elsewhere
returns-clause-elsewhere c = grind (arith, is_marked-with_bit_other)
