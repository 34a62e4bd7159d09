-- The play is made and replied to, or cannot be made.
use Rattle.std.proofs.Common.{arith}
use Rattle.read_tree.proofs.TableLemmas.{table_more}
use Rattle.read_tree.proofs.NodeLemmas.{same_table}
use Rattle.read_all.proofs.replies.reply_to.Goals as goal

-- the play is made
pub returns-in-Some-clause-over : goal.returns-in-Some-clause-over
returns-in-Some-clause-over g c = grind arith

-- it is not
pub returns-in-None-clause-over : goal.returns-in-None-clause-over
returns-in-None-clause-over g c = grind arith

-- the table is true in the same reading
pub reply_unless-reply-requires-clause-table : goal.reply_unless-reply-requires-clause-table
reply_unless-reply-requires-clause-table g c =
    same_table c.args.node c.in-Some.next c.in-Some.ensures.same
    (table_more c.requires.table c.make_at.ensures.grows)
