-- Readings after one another.
use Rattle.std.proofs.Common.{◌≡◌, ap, arith}
use Rattle.read_cache.proofs.KeepingLemmas.{Follows-trans as keeping_follows-trans}
use Rattle.match_engine.specs.Readings.{ReadingsView, codes_at, codes_of, Follows}

-- readings after readings
pub Follows-trans : (a b c : ReadingsView) → Follows a b → Follows b c → Follows a c
Follows-trans a b c first next = grind (arith, keeping_follows-trans)

-- the codes are those of before
pub codes_stay : (a b : ReadingsView) → Follows a b → codes_of b ≡ codes_of a
codes_stay a b f = ap codes_at f.depths
