use Rattle.std.proofs.Common.{arith}
use Rattle.db_read.proofs.FinishLemmas.{finished_diagram, finished_labels}
use Rattle.db_read.proofs.stages.finish.Goals as goal

-- the width is at most that of the largest board
pub overflow_cast-result-2 : goal.overflow_cast-result-2
overflow_cast-result-2 c = grind (arith, finished_diagram)

-- the star's row is a row of the diagram
pub overflow_cast-result-3 : goal.overflow_cast-result-3
overflow_cast-result-3 c = grind (arith, finished_diagram)

-- the star's column is a column of the diagram
pub overflow_cast-result-4 : goal.overflow_cast-result-4
overflow_cast-result-4 c = grind (arith, finished_diagram)

-- what the type of a pattern keeps
pub invariant_of-result : goal.invariant_of-result
invariant_of-result c = grind (arith, finished_diagram, finished_labels)
