use Rattle.std.proofs.Common.{arith}
use Rattle.dfa_core.proofs.Tables.{length-rows, four_targets}
use Rattle.dfa_core.proofs.ShownTables.{lists_of}
use Rattle.dfa_core.proofs.table.ClosedTable.rows.Goals as goal

-- there is a row for each depth
pub returns-clause-value : goal.returns-clause-value
returns-clause-value c = grind (arith, length-rows, lists_of)

-- each row has four targets
pub returns-clause-four : goal.returns-clause-four
returns-clause-four c = grind (arith, four_targets, lists_of)
