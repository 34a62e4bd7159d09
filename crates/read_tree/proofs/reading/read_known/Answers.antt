use Rattle.std.proofs.lemmas.List.Elements.{All-nil}
use Rattle.read_tree.proofs.reading.read_known.Goals as goal

-- a table of no entries tells nothing
pub read_by-requires-clause-table : goal.read_by-requires-clause-table
read_by-requires-clause-table g c = record { all = All-nil _ }
