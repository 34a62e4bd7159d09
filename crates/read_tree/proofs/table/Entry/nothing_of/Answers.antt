use Rattle.std.proofs.Common.{arith}
use Rattle.read_tree.proofs.KnownPliesLemmas.{nothing_known}
use Rattle.read_tree.proofs.table.Entry.nothing_of.Goals as goal

-- under no allowance anything is known
pub returns-clause-holds : goal.returns-clause-holds
returns-clause-holds c = grind (arith, nothing_known)
