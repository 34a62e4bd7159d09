-- The walk over the points of the board.
use Rattle.std.proofs.Common.{arith}
use Rattle.sure_proof.proofs.RestLemmas.{weak_is, weak_none}
use Rattle.sure_proof.proofs.candidate.weak_enemy_at.Goals as goal

-- a point is such an enemy
pub returns-then-is_weak_at-clause-value : goal.returns-then-is_weak_at-clause-value
returns-then-is_weak_at-clause-value c = grind (arith, weak_is)

-- no point is
pub returns-clause-value : goal.returns-clause-value
returns-clause-value c = grind (arith, weak_none)
