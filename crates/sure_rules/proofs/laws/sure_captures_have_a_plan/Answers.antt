-- The plan is to play the first move that succeeds.
use Rattle.sure_rules.proofs.PlanLemmas.{plan_takes, attack_plan, defence_plan}
use Rattle.sure_rules.proofs.laws.sure_captures_have_a_plan.Goals as goal

-- each game by it comes to a stage at which the target is surely captured
pub returns-clause-node : goal.returns-clause-node
returns-clause-node c = plan_takes

-- from a question whose attack is sure
pub returns-clause-attack : goal.returns-clause-attack
returns-clause-attack c = attack_plan

-- from a question whose string is surely not to be saved
pub returns-clause-defend : goal.returns-clause-defend
returns-clause-defend c = defence_plan
