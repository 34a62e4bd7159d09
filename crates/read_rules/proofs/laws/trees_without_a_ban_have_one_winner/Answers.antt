use Rattle.read_rules.proofs.PlyLaws.{one_winner}
use Rattle.read_rules.proofs.laws.trees_without_a_ban_have_one_winner.Goals as goal

-- where the ban forbids no candidate of the tree, who wins does not hang on the allowances
pub returns : goal.returns
returns c = record { allowances = one_winner }
