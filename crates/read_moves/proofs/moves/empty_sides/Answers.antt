-- The empty neighbours were added to none.
use Rattle.std.proofs.Common.{arith}
use Rattle.read_moves.proofs.SideLemmas.{sides_counted}
use Rattle.read_moves.proofs.moves.empty_sides.Goals as goal

-- the members that are counted are the empty neighbours of l
pub returns-clause-over : goal.returns-clause-over
returns-clause-over g c = grind (arith, sides_counted)
