use Rattle.std.proofs.Common.{◌≡◌, ◌*◌}
use Rattle.go_rules.specs.Below.{count_below}
use Rattle.go_base.specs.Bits.{is_marked}
use Rattle.go_base.proofs.bits.PointBits.count.Given as goal

-- the points of the words below i are counted
abbrev pub invariant-loop-i : goal.invariant-loop-i
invariant-loop-i l = l.count ≡ count_below (l.i * 64) (is_marked l.self-inside.words)
