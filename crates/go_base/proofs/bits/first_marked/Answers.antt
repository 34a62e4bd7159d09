use Rattle.std.proofs.Common.{arith}
use Rattle.go_base.proofs.bits.first_marked.Goals as goal

-- the lowest marked point is the answer, if it is below the end
pub returns-then-bit-lt-WORD_BITS-clause-some : goal.returns-then-bit-lt-WORD_BITS-clause-some
returns-then-bit-lt-WORD_BITS-clause-some c = grind arith

-- and where it is not, there is none
pub returns-then-bit-lt-WORD_BITS-clause-none : goal.returns-then-bit-lt-WORD_BITS-clause-none
returns-then-bit-lt-WORD_BITS-clause-none c = grind arith
