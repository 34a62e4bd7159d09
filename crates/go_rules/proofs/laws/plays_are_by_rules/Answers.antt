use Rattle.go_rules.proofs.PlayLaws.{free_follows, answered, follows_same, free_occupied_exactly, free_suicide_exactly}
use Rattle.go_rules.proofs.PlayLaws.{free_never_ko}
use Rattle.go_rules.proofs.laws.plays_are_by_rules.Goals as goal

-- what is answered follows
pub returns-clause-follows : goal.returns-clause-follows
returns-clause-follows c = free_follows

-- what follows is answered
pub returns-clause-answered : goal.returns-clause-answered
returns-clause-answered c = answered

-- what follows is determined
pub returns-clause-determined : goal.returns-clause-determined
returns-clause-determined c = follows_same

-- a stone is in the way
pub returns-clause-occupied : goal.returns-clause-occupied
returns-clause-occupied c = free_occupied_exactly

-- no liberty is left
pub returns-clause-suicide : goal.returns-clause-suicide
returns-clause-suicide c = free_suicide_exactly

-- the ban is not asked for
pub returns-clause-never_ko : goal.returns-clause-never_ko
returns-clause-never_ko c = free_never_ko
