use Rattle.go_base.proofs.JoinedMarks.{HasBoth}
use Rattle.go_base.proofs.bits.PointBits.join.Given as goal

-- the words below i have the bits of both
abbrev pub invariant-loop-i : goal.invariant-loop-i
invariant-loop-i l = HasBoth l.initial.self-inside.words l.other-inside.words l.i l.self-inside.words
