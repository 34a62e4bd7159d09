-- A sure capture is a capture.
use Rattle.sure_rules.proofs.SureLemmas.{sure_is_won}
use Rattle.sure_rules.proofs.SureCodes.{attack_code_at_most, defend_code_at_least}
use Rattle.sure_rules.proofs.laws.sure_captures_are_captures.Goals as goal

-- at a node of the game tree
pub returns-clause-node : goal.returns-clause-node
returns-clause-node c = sure_is_won

-- a sure yes of an attack is a yes
pub returns-clause-attack : goal.returns-clause-attack
returns-clause-attack c = attack_code_at_most

-- a string that is surely not to be saved is not saved
pub returns-clause-defend : goal.returns-clause-defend
returns-clause-defend c = defend_code_at_least
