-- Enemies next to a string, by their set.
use Rattle.std.proofs.Common.{arith}
use Rattle.sure_proof.proofs.RestLemmas.{weak_by_set}
use Rattle.sure_proof.proofs.candidate.is_weak_at.Goals as goal

-- it is an enemy
pub returns-then-has : goal.returns-then-has
returns-then-has c = grind (arith, weak_by_set)

-- it is none
pub returns-else-has : goal.returns-else-has
returns-else-has c = grind (arith, weak_by_set)
