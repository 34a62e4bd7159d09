-- One of the candidates that were looked for is one, so what it rests on shows that it is.
use Rattle.std.proofs.Common.{arith}
use Rattle.read_zones.proofs.TreeLemmas.{agree_self}
use Rattle.read_zones.proofs.tree.candidate_zone.Goals as goal

-- on the position itself it is one
pub candidate_shown-own-requires : goal.candidate_shown-own-requires
candidate_shown-own-requires c = grind (arith, agree_self)

-- all looks show each candidate
pub returns-clause-shown : goal.returns-clause-shown
returns-clause-shown c = grind arith
