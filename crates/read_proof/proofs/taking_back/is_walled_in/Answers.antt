-- A point is walled in exactly if each of its sides holds a stone of the colour.
use Rattle.std.proofs.Common.{arith}
use Rattle.read_proof.proofs.WalledLemmas.{walled, not_walled}
use Rattle.read_proof.proofs.taking_back.is_walled_in.Goals as goal

-- a side does not
pub returns-then-not-side_holds : goal.returns-then-not-side_holds
returns-then-not-side_holds c = grind (arith, not_walled)

-- each side does
pub returns : goal.returns
returns c = grind (arith, walled)
