use Rattle.go_rules.proofs.Transforms.{is_undone, keeps_steps, keeps_near}
use Rattle.go_rules.proofs.laws.transformations_are_symmetries.Goals as goal

-- one of the eight undoes each
pub returns-clause-undone : goal.returns-clause-undone
returns-clause-undone c = is_undone

-- neighbours stay neighbours
pub returns-clause-steps : goal.returns-clause-steps
returns-clause-steps c = λ t d e h. keeps_steps t h d e

-- what is near stays near
pub returns-clause-near : goal.returns-clause-near
returns-clause-near c = λ t d h. keeps_near t h d
