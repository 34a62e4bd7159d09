use Rattle.std.proofs.Common.{arith}
use Rattle.read_proof.proofs.FoundLemmas.{beside_true, beside_false, found_neither}
use Rattle.read_proof.proofs.beside.add_beside.Goals as goal

-- the point is beside the set, and came where the cell stands there
pub returns-then-is_beside : goal.returns-then-is_beside
returns-then-is_beside c = grind (arith, beside_true)

-- it is not
pub returns-else-is_beside : goal.returns-else-is_beside
returns-else-is_beside c = grind (arith, found_neither, beside_false)
