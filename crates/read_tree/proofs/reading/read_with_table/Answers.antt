use Rattle.read_tree.proofs.reading.read_with_table.Goals as goal

-- the table tells nothing yet
pub read_by-requires-clause-table : goal.read_by-requires-clause-table
read_by-requires-clause-table g c = c.empty_table-table.ensures _ _ _ _
