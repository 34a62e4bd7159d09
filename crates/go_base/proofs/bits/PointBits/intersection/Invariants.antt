use Rattle.std.proofs.Common.{◌&&◌}
use Rattle.go_base.proofs.MadeWords.{IsMadeBelow}
use Rattle.go_base.proofs.bits.PointBits.intersection.Given as goal

-- the words below i are made
abbrev pub invariant-loop-i : goal.invariant-loop-i
invariant-loop-i l =
    IsMadeBelow (λ a b. a && b) l.initial.common-inside.words l.other-inside.words l.i l.common-inside.words
