use Rattle.std.proofs.Common.{arith}
use Rattle.std.proofs.lemmas.List.{take_all}
use Rattle.std.proofs.lemmas.Simd.{map-map}
use Rattle.helpers.proofs.slots.Helpers.names.Goals as goal

-- each name was copied
pub returns : goal.returns
returns g c = grind (arith, take_all, map-map)
