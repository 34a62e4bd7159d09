-- The loop over the four sides.
use Rattle.std.proofs.Common.{arith}
use Rattle.sure_proof.proofs.RestLemmas.{room_found, room_none}
use Rattle.sure_proof.proofs.play.has_empty_neighbour.Goals as goal

-- a side has an empty neighbour
pub returns-then-is_empty_at : goal.returns-then-is_empty_at
returns-then-is_empty_at c = grind (arith, room_found)

-- no side has
pub returns : goal.returns
returns c = grind (arith, room_none)
