use Rattle.std.proofs.Common.{arith}
use Rattle.dfa_core.proofs.Tables.{begin_of, numbers-ordered, numbers-within, numbers-part}
use Rattle.dfa_core.proofs.table.ClosedTable.accepts.Goals as goal

-- the numbers of a row end no earlier than they begin
pub between-requires-clause-order : goal.between-requires-clause-order
between-requires-clause-order c = omega (arith, numbers-ordered c.args.self.now c.args.row c.requires)

-- the numbers of a row end within those of all rows
pub between-requires-clause-within : goal.between-requires-clause-within
between-requires-clause-within c = grind (arith, numbers-within)

-- the numbers of the row stand between
pub returns : goal.returns
returns c = grind (arith, begin_of, numbers-part)
