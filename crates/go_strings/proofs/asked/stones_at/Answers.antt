use Rattle.std.proofs.Common.{arith}
use Rattle.go_strings.proofs.Outcomes.{string-none}
use Rattle.go_strings.proofs.asked.stones_at.Goals as goal

-- an empty point has none
pub returns-in-None : goal.returns-in-None
returns-in-None c = grind (arith, string-none)
