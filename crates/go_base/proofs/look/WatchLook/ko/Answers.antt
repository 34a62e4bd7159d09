use Rattle.std.proofs.Common.{arith}
use Rattle.go_base.proofs.SeenFacts.{ban_told}
use Rattle.go_base.proofs.look.WatchLook.ko.Goals as goal

-- the position still agrees
pub invariant_of-self : goal.invariant_of-self
invariant_of-self c = grind arith

-- what was seen is seen
pub returns-clause-grows : goal.returns-clause-grows
returns-clause-grows c = grind arith

-- the ban is seen
pub returns-clause-told : goal.returns-clause-told
returns-clause-told c = grind (arith, ban_told)

-- and nothing else
pub returns-clause-only : goal.returns-clause-only
returns-clause-only c = grind arith
