-- The points on which a proof rests are a zone, and a position agrees with itself on them.
use Rattle.std.proofs.Common.{arith}
use Rattle.sure_proof.proofs.ProofLemmas.{proof_shows}
use Rattle.sure_proof.proofs.laws.sure_proofs_are_sound.Goals as goal

-- the target is surely captured
pub returns-clause-won : goal.returns-clause-won
returns-clause-won c = grind (arith, proof_shows)

-- the points are a zone
pub returns-clause-zone : goal.returns-clause-zone
returns-clause-zone c = proof_shows
