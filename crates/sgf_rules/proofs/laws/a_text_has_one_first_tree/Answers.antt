-- The tokens of a text begin with one tree.
use Rattle.std.proofs.Common.{sym, ◌∙◌}
use Rattle.sgf_rules.specs.Tokens.{tokens_of}
use Rattle.sgf_rules.proofs.FirstTrees.{first_tree_read}
use Rattle.sgf_rules.proofs.ReadBack.{one_tree}
use Rattle.sgf_rules.proofs.laws.a_text_has_one_first_tree.Goals as goal

-- both spell the front of the same tokens
pub returns : goal.returns
returns c text t u first other =
    one_tree t u (tokens_of first.rest) (tokens_of other.rest)
    (sym (first_tree_read text t first) ∙ first_tree_read text u other)
