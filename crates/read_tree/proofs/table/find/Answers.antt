use Rattle.std.proofs.Common.{arith}
use Rattle.read_tree.proofs.TableLemmas.{entry_true, of_node}
use Rattle.read_tree.proofs.table.find.Goals as goal

-- the entry is of this node
pub returns-then-is_of : goal.returns-then-is_of
returns-then-is_of c = grind (arith, of_node, entry_true)
