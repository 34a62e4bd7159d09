use Rattle.write_proof.proofs.first.words_with_table.Goals as goal

-- the table tells nothing yet
pub words_with-requires-clause-table : goal.words_with-requires-clause-table
words_with-requires-clause-table c = λ seen. c.empty_table-table.ensures seen _ _ _
