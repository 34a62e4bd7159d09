use Rattle.connect_rules.proofs.ExchangeLemmas.{exchange}
use Rattle.connect_rules.proofs.laws.either_string_may_be_named_first.Goals as goal

-- the tree is the same in either order
pub returns : goal.returns
returns c = exchange
