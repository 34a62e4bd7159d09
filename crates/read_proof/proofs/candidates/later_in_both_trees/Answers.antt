use Rattle.std.proofs.Common.{arith}
use Rattle.std.proofs.lemmas.Bool.{le-ltb}
use Rattle.read_proof.proofs.FoundLemmas.{none_yet}
use Rattle.read_proof.proofs.candidates.later_in_both_trees.Goals as goal

-- none is
pub returns : goal.returns
returns c = grind (arith, none_yet, le-ltb)
