-- Nothing stands there, and a neighbour is a liberty.
use Rattle.std.proofs.Common.{arith}
use Rattle.go_rules.proofs.Cells.{eq_is_same_cell}
use Rattle.sure_proof.proofs.RestLemmas.{empty_beside}
use Rattle.sure_proof.proofs.candidate.is_empty_beside.Goals as goal

-- nothing stands there
pub returns-then-eq : goal.returns-then-eq
returns-then-eq c = grind (arith, empty_beside, eq_is_same_cell)

-- a stone does
pub returns-else-eq : goal.returns-else-eq
returns-else-eq c = grind (arith, empty_beside, eq_is_same_cell)
