use Rattle.std.proofs.Common.{arith}
use Rattle.std.proofs.lemmas.List.{append-nil}
use Rattle.dfa_core.proofs.RowKinds.{kind-dead, kind-plain}
use Rattle.dfa_match.proofs.StandingWalks.{hits_of-start}
use Rattle.dfa_match.proofs.walks.give_start.Goals as goal

-- where the start accepts nothing no walk gives out anything
pub returns-in-Plain : goal.returns-in-Plain
returns-in-Plain c = grind (arith, kind-plain, kind-dead, hits_of-start, append-nil)
