use Rattle.std.proofs.Common.{arith}
use Rattle.read_tree.proofs.NodeLemmas.{no_pass}
use Rattle.write_proof.proofs.AlikeLemmas.{success_each, success_same}
use Rattle.write_proof.proofs.alike.pass_success.Goals as goal

-- the attacker does not pass
pub returns-then-turn-clause-success : goal.returns-then-turn-clause-success
returns-then-turn-clause-success g c = grind (arith, no_pass)

-- the defender's pass is told under each allowance
pub returns-clause-success : goal.returns-clause-success
returns-clause-success g c = grind (arith, success_same, success_each)
