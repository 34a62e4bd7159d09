-- The loop over the four sides.
use Rattle.std.proofs.Common.{arith}
use Rattle.sure_proof.proofs.RestLemmas.{union_more}
use Rattle.sure_proof.proofs.play.play_rests_on.Goals as goal

-- the next side comes
pub sides-preserved : goal.sides-preserved
sides-preserved c = grind (arith, union_more c.sides.side, c.join.ensures, c.sides.invariant, c.shows_side.ensures)
