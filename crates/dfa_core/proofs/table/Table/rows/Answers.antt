use Rattle.std.proofs.Common.{arith}
use Rattle.dfa_core.proofs.Tables.{length-rows}
use Rattle.dfa_core.proofs.ShownTables.{table_lists}
use Rattle.dfa_core.proofs.table.Table.rows.Goals as goal

-- there is a row for each depth
pub returns : goal.returns
returns c = grind (arith, length-rows, table_lists)
