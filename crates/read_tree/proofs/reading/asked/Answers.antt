use Rattle.go_base.proofs.AddedFacts.{cell_near}
use Rattle.read_tree.proofs.reading.asked.Goals as goal

-- the target's cell alone is looked at
pub returns-clause-near : goal.returns-clause-near
returns-clause-near g c = cell_near c.cell.ensures.only
