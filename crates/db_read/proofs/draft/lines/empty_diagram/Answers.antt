use Rattle.std.proofs.Common.{arith}
use Rattle.db_rules.specs.Diagram.{wanted}
use Rattle.db_read.proofs.draft.lines.empty_diagram.Goals as goal

-- a diagram with nothing in it is that of no line
pub returns-clause-drawn : goal.returns-clause-drawn
unfolding wanted
returns-clause-drawn c = grind arith
