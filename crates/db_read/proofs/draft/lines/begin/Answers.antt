use Rattle.std.proofs.Common.{arith}
use Rattle.db_read.proofs.draft.lines.begin.Goals as goal

-- the name of the entry is the one on the Pattern line
pub returns-clause-begun : goal.returns-clause-begun
returns-clause-begun c = grind arith
