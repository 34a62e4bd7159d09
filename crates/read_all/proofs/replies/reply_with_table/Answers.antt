use Rattle.read_all.proofs.replies.reply_with_table.Goals as goal

-- the table tells nothing yet
pub reply_by-requires-clause-table : goal.reply_by-requires-clause-table
reply_by-requires-clause-table g c = c.empty_table-table.ensures _ _ _ _
