-- The set has as many points as the string has liberties, and these.
use Rattle.std.proofs.Common.{arith}
use Rattle.wider_rules.proofs.StringLemmas.{has_liberty, how_many}
use Rattle.sure_proof.proofs.candidate.has_few.Goals as goal

-- both are so
pub returns : goal.returns
returns c = grind (arith, how_many, has_liberty)
