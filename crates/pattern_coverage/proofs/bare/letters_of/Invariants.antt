use Rattle.std.proofs.Common.{◌≡◌, take}
use Rattle.pattern_coverage.proofs.bare.letters_of.Given as goal

-- the letters so far are copied
abbrev pub invariant-loop-letter : goal.invariant-loop-letter
invariant-loop-letter l = l.copy ≡ take l.letter-index l.letters
