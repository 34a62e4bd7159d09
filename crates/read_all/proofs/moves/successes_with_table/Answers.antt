use Rattle.read_all.proofs.moves.successes_with_table.Goals as goal

-- the table tells nothing yet
pub successes_by-requires-clause-table : goal.successes_by-requires-clause-table
successes_by-requires-clause-table g c = c.empty_table-table.ensures _ _ _ _
