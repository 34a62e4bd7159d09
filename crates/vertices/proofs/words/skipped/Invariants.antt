use Rattle.std.proofs.Common.{◌≡◌, drop}
use Rattle.vertices.specs.Words.{words_of, plain}
use Rattle.vertices.proofs.words.skipped.Given as goal

-- the words are those of what is left
abbrev pub invariant-loop-i : goal.invariant-loop-i
invariant-loop-i l = words_of (plain (drop l.i l.text)) ≡ words_of (plain l.text)
