-- The set has as many points as the target has liberties.
use Rattle.std.proofs.Common.{arith}
use Rattle.sure_proof.proofs.RestLemmas.{liberties_in}
use Rattle.sure_proof.proofs.candidate.is_wide.Goals as goal

-- all three are so
pub returns : goal.returns
returns c = grind (arith, liberties_in)
