use Rattle.std.proofs.Common.{take}
use Rattle.pattern_coverage.specs.Bare.{AreBare}
use Rattle.pattern_coverage.proofs.bare.bare_list.Given as goal

-- the bare patterns so far
abbrev pub invariant-loop-p : goal.invariant-loop-p
invariant-loop-p l = AreBare (take l.p-index l.patterns) l.bare.items
