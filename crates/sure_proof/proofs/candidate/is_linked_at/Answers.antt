-- Linked strings, by their parts.
use Rattle.std.proofs.Common.{arith}
use Rattle.sure_proof.proofs.RestLemmas.{linked_by_parts}
use Rattle.sure_proof.proofs.candidate.is_linked_at.Goals as goal

-- it is a friend
pub returns-then-is_friend : goal.returns-then-is_friend
returns-then-is_friend c = grind (arith, linked_by_parts)

-- it is none
pub returns-else-is_friend : goal.returns-else-is_friend
returns-else-is_friend c = grind (arith, linked_by_parts)
