use Rattle.read_tree.proofs.nodes.wins_with_table.Goals as goal

-- the table tells nothing yet
pub wins_with-requires-clause-table : goal.wins_with-requires-clause-table
wins_with-requires-clause-table g c = c.empty_table-table.ensures _ _ _ _
