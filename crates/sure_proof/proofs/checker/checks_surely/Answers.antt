-- The node is the first of the question.
use Rattle.std.proofs.Common.{arith}
use Rattle.sure_proof.proofs.checker.checks_surely.Goals as goal

-- the text is a proof there
pub returns-clause-proof : goal.returns-clause-proof
returns-clause-proof c = grind arith

-- and the target is surely captured there
pub returns-clause-sound : goal.returns-clause-sound
returns-clause-sound c = grind arith
