use Rattle.std.proofs.Common.{pos, arith}
use Rattle.match_misfit.proofs.diagram.does_fit.Goals as goal

-- the letter is asked of what stands at its place
pub returns-in-Some : goal.returns-in-Some
returns-in-Some c = grind (arith, pos)
