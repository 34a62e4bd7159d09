use Rattle.read_tree.proofs.reading.read_with_smaller_table.Goals as goal

-- the table tells nothing yet
pub read_by-requires-clause-table : goal.read_by-requires-clause-table
read_by-requires-clause-table g c = c.smaller_table-table.ensures _ _ _ _
