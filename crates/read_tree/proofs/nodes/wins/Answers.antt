use Rattle.std.proofs.Common.{arith}
use Rattle.std.proofs.lemmas.List.Elements.{All-nil}
use Rattle.read_tree.proofs.nodes.wins.Goals as goal

-- a table of no entries tells nothing
pub wins_with-requires-clause-table : goal.wins_with-requires-clause-table
wins_with-requires-clause-table g c = record { all = All-nil _ }

-- the position shown agrees with what is seen
pub returns-then-node-lt-PLIES_WITH_TABLE-clause-answer : goal.returns-then-node-lt-PLIES_WITH_TABLE-clause-answer
returns-then-node-lt-PLIES_WITH_TABLE-clause-answer g c = grind arith

-- and so where a table is made
pub returns-clause-answer : goal.returns-clause-answer
returns-clause-answer g c = grind arith
