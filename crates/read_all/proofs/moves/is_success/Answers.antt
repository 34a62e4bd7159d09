-- The play is made and read, or cannot be made.
use Rattle.std.proofs.Common.{arith}
use Rattle.read_tree.proofs.NodeLemmas.{same_table}
use Rattle.read_tree.proofs.TableLemmas.{table_more}
use Rattle.read_all.proofs.moves.is_success.Goals as goal

-- the play is made
pub returns-in-Some-clause-over : goal.returns-in-Some-clause-over
returns-in-Some-clause-over g c = grind arith

-- it is not
pub returns-in-None-clause-over : goal.returns-in-None-clause-over
returns-in-None-clause-over g c = grind arith

-- the table is true in the same reading
pub wins_at-won-requires-clause-table : goal.wins_at-won-requires-clause-table
wins_at-won-requires-clause-table g c =
    same_table c.args.node c.in-Some.next c.in-Some.ensures.same
    (table_more c.requires.table c.make_at.ensures.grows)
