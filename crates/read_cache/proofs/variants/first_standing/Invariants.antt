use Rattle.std.proofs.Common.{take}
use Rattle.read_cache.specs.Variants.{NoneStands}
use Rattle.read_cache.proofs.variants.first_standing.Given as goal

-- none of the variants before stands
abbrev pub invariant-loop-i : goal.invariant-loop-i
invariant-loop-i g l = NoneStands l.position (take l.i l.variants)
