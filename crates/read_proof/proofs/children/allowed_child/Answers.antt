use Rattle.std.proofs.Common.{arith}
use Rattle.read_proof.proofs.ChildLemmas.{child_spent, child_allowed, child_hopeless}
use Rattle.read_proof.proofs.children.allowed_child.Goals as goal

-- no allowance is left
pub returns-then-left-eq0-clause-value : goal.returns-then-left-eq0-clause-value
returns-then-left-eq0-clause-value c = grind (arith, child_spent)

-- one is left, and the play is legal without the ban
pub returns-in-Ok-clause-value : goal.returns-in-Ok-clause-value
returns-in-Ok-clause-value c = grind (arith, child_allowed)

-- the target stays on the board
pub returns-in-Ok-clause-target : goal.returns-in-Ok-clause-target
returns-in-Ok-clause-target c = grind (arith, returns-in-Ok-clause-value)

-- it is illegal even so
pub returns-in-Err-clause-value : goal.returns-in-Err-clause-value
returns-in-Err-clause-value c = grind (arith, child_hopeless)
