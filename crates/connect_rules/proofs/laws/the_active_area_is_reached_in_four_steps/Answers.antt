use Rattle.connect_rules.proofs.AreaWords.{area-is, node_gives, node_from}
use Rattle.connect_rules.proofs.laws.the_active_area_is_reached_in_four_steps.Goals as goal

-- the area is what four steps lead to
pub returns-clause-area : goal.returns-clause-area
returns-clause-area c = area-is

-- the nodes are those that moves lead to
pub returns-clause-nodes : goal.returns-clause-nodes
returns-clause-nodes c = λ q pos n own here a_on b_on. (node_gives a_on, node_from q pos n own here)
