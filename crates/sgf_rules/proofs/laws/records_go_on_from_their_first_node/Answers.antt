-- The first node, and then the others.
use Rattle.sgf_rules.proofs.FirstNodes.{record_from_first}
use Rattle.sgf_rules.proofs.MainLines.{line_computed}
use Rattle.std.proofs.Common.{◌∷◌}
use Rattle.sgf_rules.proofs.laws.records_go_on_from_their_first_node.Goals as goal

-- the main line that is computed is that of the tree
pub returns : goal.returns
returns c text n ns m = record_from_first text n ns (line_computed text (n ∷ ns) m)
