use Rattle.std.proofs.Common.{arith}
use Rattle.match_engine.proofs.Labels.{label_row, label_column}
use Rattle.match_engine.proofs.constraint_question.label_place.Goals as goal

-- the label is one of the pattern's
pub cell_place-requires-clause-row : goal.cell_place-requires-clause-row
cell_place-requires-clause-row c = grind (arith, label_row)

-- the label is one of the pattern's
pub cell_place-requires-clause-column : goal.cell_place-requires-clause-column
cell_place-requires-clause-column c = grind (arith, label_column)
