use Rattle.std.proofs.Common.{arith}
use Rattle.go_base.proofs.look.Watch.new.Goals as goal

-- no fact but the size holds
pub invariant_of-result : goal.invariant_of-result
invariant_of-result c = grind arith

-- nothing but the size was seen
pub returns-clause-none : goal.returns-clause-none
returns-clause-none c = grind arith
