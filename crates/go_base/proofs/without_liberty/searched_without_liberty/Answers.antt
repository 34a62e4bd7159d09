use Rattle.std.proofs.Common.{arith}
use Rattle.go_base.proofs.WithoutLiberty.{liberty_seen, none_there}
use Rattle.go_base.proofs.without_liberty.searched_without_liberty.Goals as goal

-- a string with a liberty is not told
pub returns-then-count-ne0-clause-over : goal.returns-then-count-ne0-clause-over
returns-then-count-ne0-clause-over g c = grind (arith, liberty_seen)

-- a string without a liberty is told
pub returns-clause-over : goal.returns-clause-over
returns-clause-over g c = grind (arith, none_there)
