use Rattle.std.proofs.Common.{◌≡◌, ℕ, ◌<◌, ◌≤◌, ◌-◌, ◌%◌, IsTrue, true}
use Rattle.go_base.specs.Bits.{is_marked}
use Rattle.go_base.proofs.bits.PointBits.all_below.Given as goal

-- a word begins at the next point, which is not past the end, and at each marked point below it the test said yes
abbrev pub invariant-loop-base : goal.invariant-loop-base
invariant-loop-base g l = record {
  within : l.base ≤ l.end;
  aligned : l.base % 64 ≡ 0;
  passed : (q : ℕ) → q < l.end → q < l.base → IsTrue (is_marked l.self-inside.words q) → goal.F-post g l.test q true;
}

-- how many points are left
abbrev pub decreases-loop-base : goal.decreases-loop-base
decreases-loop-base g l = l.end - l.base
