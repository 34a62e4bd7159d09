-- What words prove is surely captured.
use Rattle.std.proofs.Common.{arith}
use Rattle.sure_proof.proofs.ProofLemmas.{proof_shows}
use Rattle.sure_proof.proofs.checker.check_node.Goals as goal

-- a proof stands in front
pub returns-in-Some-clause-sound : goal.returns-in-Some-clause-sound
returns-in-Some-clause-sound c = grind (arith, proof_shows)
