use Rattle.go_base.proofs.CountedWords.{IsNoteBelow}
use Rattle.go_base.proofs.bits.PointBits.words_in_use.Given as goal

-- the words below i are noted if they have a bit
abbrev pub invariant-loop-i : goal.invariant-loop-i
invariant-loop-i l = IsNoteBelow l.self l.i l.used
