use Rattle.std.proofs.Common.{arith}
use Rattle.read_cache.proofs.FirstEntries.{lookup-first}
use Rattle.read_cache.proofs.front.value_of.Goals as goal

-- the first has the key
pub returns-in-Some : goal.returns-in-Some
returns-in-Some g c = grind (arith, lookup-first)
