use Rattle.std.proofs.lemmas.List.Elements.{All-nil}
use Rattle.write_proof.proofs.first.words_of.Goals as goal

-- a table of no entries tells nothing
pub words_with-requires-clause-table : goal.words_with-requires-clause-table
words_with-requires-clause-table c = λ seen. record { all = All-nil _ }
