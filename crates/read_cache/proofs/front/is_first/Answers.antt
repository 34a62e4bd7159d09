use Rattle.std.proofs.Common.{arith}
use Rattle.read_cache.proofs.FirstEntries.{promoted-first}
use Rattle.read_cache.proofs.front.is_first.Goals as goal

-- the first stays first
pub returns-in-Some : goal.returns-in-Some
returns-in-Some g c = grind (arith, promoted-first)
