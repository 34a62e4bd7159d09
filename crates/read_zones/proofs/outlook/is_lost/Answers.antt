-- What is not captured in the tree that is tried is not surely captured.
use Rattle.std.proofs.Common.{arith}
use Rattle.std.proofs.lemmas.Bool.{cases_Bool, both_ways, not-true}
use Rattle.sure_rules.proofs.SureLemmas.{sure_is_won}
use Rattle.read_zones.proofs.outlook.is_lost.Goals as goal

-- a sure capture would be a capture
pub returns : goal.returns
returns c = grind (arith, cases_Bool, both_ways, not-true, sure_is_won)
