use Rattle.go_rules.proofs.OnlyLiberties.{only_liberty_captures}
use Rattle.go_rules.proofs.laws.an_only_liberty_captures.Goals as goal

-- the string has no liberty left
pub returns : goal.returns
returns c = only_liberty_captures
