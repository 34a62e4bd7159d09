use Rattle.std.proofs.Common.{◌≡◌, ℕ, ◌<◌, false, get_or}
use Rattle.vertices.specs.RawWords.{is_parting}
use Rattle.vertices.proofs.words.word_len.Given as goal

-- no byte so far parts words
abbrev pub invariant-loop-i : goal.invariant-loop-i
invariant-loop-i l = (k : ℕ) → k < l.i → is_parting (get_or l.text k 0) ≡ false
