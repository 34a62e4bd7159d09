use Rattle.go_rules.proofs.PlayLaws.{stone_put, others_stay}
use Rattle.go_rules.proofs.laws.plays_change_little.Goals as goal

-- the stone stands
pub returns-clause-stone : goal.returns-clause-stone
returns-clause-stone c = stone_put

-- the others stay, or are captured
pub returns-clause-others : goal.returns-clause-others
returns-clause-others c = others_stay
