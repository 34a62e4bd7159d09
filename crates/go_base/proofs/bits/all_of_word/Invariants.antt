use Rattle.std.proofs.Common.{◌≡◌, ℕ, ◌+◌, ◌<◌, true}
use Rattle.std.specs.Int.{bit_at}
use Rattle.go_base.proofs.bits.all_of_word.Given as goal

-- a bit that is left is one of the word's, and at the point of each other bit of it the test said yes
abbrev pub invariant-loop-rest : goal.invariant-loop-rest
invariant-loop-rest g l = record {
  left : (k : ℕ) → bit_at l.rest k ≡ 1 → bit_at l.word k ≡ 1;
  passed : (k : ℕ) → k < 64 → bit_at l.word k ≡ 1 → bit_at l.rest k ≡ 0 → goal.F-post g l.test (l.base + k) true;
}

-- each bit that is cleared makes the word less
abbrev pub decreases-loop-rest : goal.decreases-loop-rest
decreases-loop-rest g l = l.rest
