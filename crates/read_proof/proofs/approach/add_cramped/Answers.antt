use Rattle.std.proofs.Common.{arith}
use Rattle.std.proofs.lemmas.Bool.{and_from, lt-ltb}
use Rattle.read_proof.proofs.FoundLemmas.{found_add}
use Rattle.read_proof.proofs.approach.add_cramped.Goals as goal

-- the point is in the set and cramped, and came
pub returns-then-is_cramped : goal.returns-then-is_cramped
returns-then-is_cramped c = grind (arith, found_add, and_from, lt-ltb)
