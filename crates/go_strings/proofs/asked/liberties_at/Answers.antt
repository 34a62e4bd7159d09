use Rattle.std.proofs.Common.{arith}
use Rattle.go_strings.proofs.Outcomes.{liberties-none}
use Rattle.go_strings.proofs.asked.liberties_at.Goals as goal

-- an empty point has none
pub returns-in-None : goal.returns-in-None
returns-in-None c = grind (arith, liberties-none)
