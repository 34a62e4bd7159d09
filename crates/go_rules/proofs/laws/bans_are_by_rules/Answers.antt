use Rattle.go_rules.proofs.BanLaws.{ban_means, ban_from, ban_parts}
use Rattle.go_rules.proofs.laws.bans_are_by_rules.Goals as goal

-- the ban is the one of the words
pub returns-clause-left : goal.returns-clause-left
returns-clause-left c = λ pos c p new q on e. (ban_means pos c p new on e q, ban_from pos c p new on e q)

-- the ban is on the other colour
pub returns-clause-colour : goal.returns-clause-colour
returns-clause-colour c = λ pos c p new q k on e is. (ban_parts pos c p new on e q k is).0
