use Rattle.go_rules.proofs.PlayLaws.{occupied_exactly, ko_exactly, suicide_exactly, free_otherwise}
use Rattle.go_rules.proofs.laws.reasons_are_in_order.Goals as goal

-- a stone comes first
pub returns-clause-occupied : goal.returns-clause-occupied
returns-clause-occupied c = occupied_exactly

-- then the ban
pub returns-clause-ko : goal.returns-clause-ko
returns-clause-ko c = ko_exactly

-- then suicide
pub returns-clause-suicide : goal.returns-clause-suicide
returns-clause-suicide c = suicide_exactly

-- else the play is as without a ban
pub returns-clause-otherwise : goal.returns-clause-otherwise
returns-clause-otherwise c = free_otherwise
