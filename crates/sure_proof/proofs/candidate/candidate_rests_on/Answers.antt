-- What a candidate rests on, by what kind it is.
use Rattle.std.proofs.Common.{arith}
use Rattle.std.specs.FinSet as set
use Rattle.sure_proof.proofs.ProofLemmas.{rests_liberty, rests_wide, rests_other}
use Rattle.sure_proof.proofs.RestLemmas.{in_liberties}
use Rattle.sure_proof.proofs.candidate.candidate_rests_on.Goals as goal

-- a liberty
pub returns-then-has : goal.returns-then-has
returns-then-has c = grind (arith, rests_liberty, in_liberties)

-- a point beside one
pub returns-then-is_wide : goal.returns-then-is_wide
returns-then-is_wide c = grind (arith, rests_wide, in_liberties)

-- another
pub returns : goal.returns
returns c = grind (arith, rests_other, in_liberties)
