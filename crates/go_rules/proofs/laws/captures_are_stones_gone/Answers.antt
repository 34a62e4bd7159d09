use Rattle.go_rules.proofs.CaptureLaws.{no_captures, own_captures, others_captures, pass_captures}
use Rattle.go_rules.proofs.laws.captures_are_stones_gone.Goals as goal

-- no move took anything
pub returns-clause-nothing : goal.returns-clause-nothing
returns-clause-nothing c = no_captures

-- a move of the colour took what is gone
pub returns-clause-own : goal.returns-clause-own
returns-clause-own c = own_captures

-- a move of the other colour took nothing for this one
pub returns-clause-others : goal.returns-clause-others
returns-clause-others c = others_captures

-- a pass takes nothing
pub returns-clause-pass : goal.returns-clause-pass
returns-clause-pass c = pass_captures
