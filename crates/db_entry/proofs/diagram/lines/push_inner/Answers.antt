use Rattle.std.proofs.Common.{arith}
use Rattle.std.proofs.lemmas.Grind.{common_steps}
use Rattle.std.proofs.lemmas.List.Elements.{filter_map-append}
use Rattle.db_entry.proofs.diagram.lines.push_inner.Goals as goal

-- a byte that is a letter puts that letter at the end, and any other byte nothing
pub loop-b-preserved : goal.loop-b-preserved
loop-b-preserved c = grind (arith, common_steps, filter_map-append)
