-- Each line is an edge, crosses letters or lies beyond by where it lies, and each way that two of them meet is one kind
-- of cell.
use Rattle.pat_types.proofs.EdgeCells.{drawn_as_seen}
use Rattle.pat_types.proofs.laws.cells_are_drawn_as_seen.Goals as goal

-- the cells of a pattern are drawn as a reader of its diagram sees them
pub returns : goal.returns
returns c = drawn_as_seen
