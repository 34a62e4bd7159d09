use Rattle.std.proofs.Common.{◌≡◌, ℕ, ◌<◌, false, get_or, eqb}
use Rattle.vertices.specs.Words.{hash}
use Rattle.vertices.proofs.words.comment_start.Given as goal

-- no byte so far was the one sought
abbrev pub invariant-loop-i : goal.invariant-loop-i
invariant-loop-i l = (k : ℕ) → k < l.i → eqb (get_or l.line k 0) hash ≡ false
