use Rattle.std.proofs.Common.{arith}
use Rattle.dfa_core.proofs.Tables.{numbers-all}
use Rattle.dfa_core.proofs.ShownTables.{lists_of}
use Rattle.dfa_core.proofs.table.ClosedTable.numbers.Goals as goal

-- the list has the numbers of all rows
pub returns : goal.returns
returns c = grind (arith, numbers-all, lists_of)
