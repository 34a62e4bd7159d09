use Rattle.std.proofs.Common.{arith}
use Rattle.dfa_core.proofs.Tables.{rows_in-none}
use Rattle.dfa_core.proofs.table.Table.with_room.Goals as goal

-- a table with no depths has no rows
pub returns : goal.returns
returns c = rows_in-none _ c.in_ok-depths.ensures.items

-- no rows have no kinds
pub invariant_of-result : goal.invariant_of-result
invariant_of-result c = grind (arith, rows_in-none)
