use Rattle.std.proofs.Common.{arith}
use Rattle.go_base.proofs.About.{one_of_five}
use Rattle.go_base.proofs.facts.Facts.about.Goals as goal

-- a point is marked that one of the five marks
pub returns : goal.returns
returns c = grind (arith, one_of_five)
