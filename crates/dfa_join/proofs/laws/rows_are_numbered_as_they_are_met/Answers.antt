use Rattle.dfa_join.proofs.Orders.{numbered_as_met}
use Rattle.dfa_join.proofs.laws.rows_are_numbered_as_they_are_met.Goals as goal

-- rows in the canonical order are numbered in the order in which they are first led to
pub returns : goal.returns
returns c = numbered_as_met
