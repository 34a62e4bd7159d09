use Rattle.write_proof.proofs.first.words_with.Goals as goal

-- the table tells nothing false
pub words_on-words-requires-clause-table : goal.words_on-words-requires-clause-table
words_on-words-requires-clause-table c = c.requires.table _
