use Rattle.std.proofs.Common.{arith}
use Rattle.write_proof.proofs.AlikeLemmas.{success_each, success_same}
use Rattle.write_proof.proofs.alike.play_success.Goals as goal

-- the play is told under each allowance
pub returns-clause-success : goal.returns-clause-success
returns-clause-success g c = grind (arith, success_same, success_each)
