use Rattle.std.proofs.Common.{arith}
use Rattle.std.proofs.lemmas.List.{length-map}
use Rattle.dfa_core.proofs.Entries.{entries_are}
use Rattle.dfa_core.proofs.table.ClosedTable.entries.Goals as goal

-- each entry is that of a target of its row
pub returns : goal.returns
returns c = grind (arith, entries_are, length-map)
