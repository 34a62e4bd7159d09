use Rattle.std.proofs.Common.{arith}
use Rattle.spiral.proofs.Rings.{ring_later}
use Rattle.spiral.proofs.ring.ring_with.Goals as goal

-- the ring begins after the index, so it is one before
pub loop-k-preserved : goal.loop-k-preserved
loop-k-preserved c = grind (arith, ring_later)
