-- The walk over the points of the board.
use Rattle.std.proofs.Common.{arith}
use Rattle.sure_proof.proofs.RestLemmas.{linked_is, linked_none}
use Rattle.sure_proof.proofs.candidate.linked_at.Goals as goal

-- a point is such a stone
pub returns-then-is_linked_at-clause-value : goal.returns-then-is_linked_at-clause-value
returns-then-is_linked_at-clause-value c = grind (arith, linked_is)

-- no point is
pub returns-clause-value : goal.returns-clause-value
returns-clause-value c = grind (arith, linked_none)
