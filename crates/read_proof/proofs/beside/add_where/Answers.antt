use Rattle.std.proofs.Common.{arith}
use Rattle.go_rules.proofs.Cells.{eq_is_same_cell}
use Rattle.read_proof.proofs.FoundLemmas.{found_add, found_neither}
use Rattle.read_proof.proofs.beside.add_where.Goals as goal

-- the point came, and the cell stands there
pub returns-then-eq : goal.returns-then-eq
returns-then-eq c = grind (arith, eq_is_same_cell, found_add)

-- something else stands there
pub returns-else-eq : goal.returns-else-eq
returns-else-eq c = grind (arith, eq_is_same_cell, found_neither)
