use Rattle.std.proofs.Common.{ap, ◌∙◌, add-one}
use Rattle.connect_rules.specs.Connection.{can_connect}
use Rattle.connect_rules.proofs.TreeLemmas.{one_more}
use Rattle.connect_rules.proofs.laws.joining_is_monotone_in_the_plies.Goals as goal

-- the next number, written as a sum
pub returns : goal.returns
returns c = record {
  one_more = λ n link own pos h. ap (λ m. can_connect m link own pos) (add-one n) ∙ one_more n link own pos h;
}
