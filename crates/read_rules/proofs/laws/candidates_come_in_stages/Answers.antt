use Rattle.read_rules.proofs.StageLemmas.{candidate_stages, later_none, later_narrow}
use Rattle.read_rules.proofs.laws.candidates_come_in_stages.Goals as goal

-- the later candidates come last
pub returns-clause-stages : goal.returns-clause-stages
returns-clause-stages c = candidate_stages

-- in the stated tree without wide plies there are none
pub returns-clause-none_later : goal.returns-clause-none_later
returns-clause-none_later c = later_none

-- in the wider tree without wide plies they are the further candidates of every ply
pub returns-clause-narrow : goal.returns-clause-narrow
returns-clause-narrow c = later_narrow
