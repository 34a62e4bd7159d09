use Rattle.std.proofs.Common.{◌≡◌, drop}
use Rattle.vertices.specs.Words.{kept}
use Rattle.vertices.proofs.words.first_byte.Given as goal

-- the bytes so far are dropped
abbrev pub invariant-loop-i : goal.invariant-loop-i
invariant-loop-i l = kept (drop l.i l.word) ≡ kept l.word
