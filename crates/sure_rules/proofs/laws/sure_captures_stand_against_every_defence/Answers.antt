-- No defence stands against a sure capture.
use Rattle.sure_rules.proofs.DefenceLemmas.{taken_anyway, attack_taken, defence_taken}
use Rattle.sure_rules.proofs.laws.sure_captures_stand_against_every_defence.Goals as goal

-- from a node of the game tree
pub returns-clause-node : goal.returns-clause-node
returns-clause-node c = taken_anyway

-- from a question whose attack is sure
pub returns-clause-attack : goal.returns-clause-attack
returns-clause-attack c = attack_taken

-- from a question whose string is surely not to be saved
pub returns-clause-defend : goal.returns-clause-defend
returns-clause-defend c = defence_taken
