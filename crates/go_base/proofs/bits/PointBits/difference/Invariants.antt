use Rattle.std.proofs.Common.{◌&&◌, not}
use Rattle.go_base.proofs.MadeWords.{IsMadeBelow}
use Rattle.go_base.proofs.bits.PointBits.difference.Given as goal

-- the words below i are made
abbrev pub invariant-loop-i : goal.invariant-loop-i
invariant-loop-i l =
    IsMadeBelow (λ a b. a && not b) l.initial.rest-inside.words l.other-inside.words l.i l.rest-inside.words
