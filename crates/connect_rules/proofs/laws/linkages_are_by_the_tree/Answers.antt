use Rattle.connect_rules.proofs.LinkageLemmas.{linkage_another, yes_connect, yes_disconnect, no_move, answer_first}
use Rattle.connect_rules.proofs.laws.linkages_are_by_the_tree.Goals as goal

-- a question about another position is answered no
pub returns-clause-another : goal.returns-clause-another
returns-clause-another c = linkage_another

-- connect is answered by the tree at the strings' own turn
pub returns-clause-connect : goal.returns-clause-connect
returns-clause-connect c = yes_connect

-- disconnect is answered by the tree at the other turn
pub returns-clause-disconnect : goal.returns-clause-disconnect
returns-clause-disconnect c = yes_disconnect

-- no comes without a move
pub returns-clause-no_move : goal.returns-clause-no_move
returns-clause-no_move c = no_move

-- yes comes with the first move that attains it
pub returns-clause-first_move : goal.returns-clause-first_move
returns-clause-first_move c = answer_first
