use Rattle.std.proofs.Common.{ap, ◌∙◌, add-one}
use Rattle.read_rules.specs.GameTree.{attacker_wins}
use Rattle.read_rules.proofs.PlyLaws.{one_more}
use Rattle.read_rules.proofs.laws.winning_is_monotone_in_the_plies.Goals as goal

-- the next number, written as a sum
pub returns : goal.returns
returns c = record { one_more = λ n node pos h. ap (λ m. attacker_wins m node pos) (add-one n) ∙ one_more n node pos h }
