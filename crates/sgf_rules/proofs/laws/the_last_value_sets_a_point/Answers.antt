-- Values are set one after another.
use Rattle.sgf_rules.proofs.SetPoints.{last_sets, all_leave}
use Rattle.sgf_rules.proofs.laws.the_last_value_sets_a_point.Goals as goal

-- the last value whose rectangle has the point
pub returns-clause-last : goal.returns-clause-last
returns-clause-last c s p cells before after cell value on there none =
    last_sets s p cells before after cell value on there none

-- no value whose rectangle has it
pub returns-clause-none : goal.returns-clause-none
returns-clause-none c s p cells uses on none = all_leave s p cells uses on none
