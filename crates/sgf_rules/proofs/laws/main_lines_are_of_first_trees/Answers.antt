-- The walk over tokens and the trees that are written.
use Rattle.sgf_rules.proofs.MainLines.{line_found, line_computed}
use Rattle.sgf_rules.proofs.laws.main_lines_are_of_first_trees.Goals as goal

-- both ways
pub returns : goal.returns
returns c text nodes = (line_found text nodes, line_computed text nodes)
