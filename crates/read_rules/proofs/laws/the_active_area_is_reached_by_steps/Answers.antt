use Rattle.read_rules.proofs.AreaWords.{area-is, node_gives, node_from}
use Rattle.read_rules.proofs.laws.the_active_area_is_reached_by_steps.Goals as goal

-- the reach of the target's string and what five steps lead to are one
pub returns-clause-area : goal.returns-clause-area
returns-clause-area c = area-is

-- the trees and the moves that lead to their nodes are one
pub returns-clause-nodes : goal.returns-clause-nodes
returns-clause-nodes c = λ q pos n node here. (node_gives, node_from q pos n node here)
