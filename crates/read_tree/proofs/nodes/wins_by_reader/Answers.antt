-- The reader is asked for the only allowance of the node.
use Rattle.std.proofs.Common.{◌∙◌, arith}
use Rattle.trial_board.specs.Trials.{after}
use Rattle.read_tree.proofs.NodeLemmas.{told_alone, some_allowance}
use Rattle.read_tree.proofs.nodes.wins_by_reader.Goals as goal

-- there is one to ask for
pub attacker_wins-requires-clause-some : goal.attacker_wins-requires-clause-some
attacker_wins-requires-clause-some g c = grind (arith, some_allowance)

-- and it is told
pub returns-clause-over : goal.returns-clause-over
returns-clause-over g c = λ pos a.
    c.has_some.ensures ∙ told_alone c.args.plies c.args.node (after pos c.args.board.now.moves) c.the_allowance.result
    c.attacker_wins.result c.requires.one c.the_allowance.ensures (c.attacker_wins.ensures.over pos a)
