use Rattle.std.proofs.Common.{arith}
use Rattle.dfa_match.proofs.StandingWalks.{unopened}
use Rattle.dfa_match.proofs.walks.behind_opening.Goals as goal

-- nothing is known of the row behind the opening
pub returns-in-None : goal.returns-in-None
returns-in-None c steps are = grind (arith, unopened)
