-- The loop over the four sides.
use Rattle.std.proofs.Common.{arith}
use Rattle.sure_proof.proofs.RestLemmas.{open_is, open_none}
use Rattle.sure_proof.proofs.loss.open_neighbour.Goals as goal

-- a side has an open neighbour
pub returns-then-is_open-clause-value : goal.returns-then-is_open-clause-value
returns-then-is_open-clause-value c = grind (arith, open_is)

-- no side has
pub returns-clause-value : goal.returns-clause-value
returns-clause-value c = grind (arith, open_none)
