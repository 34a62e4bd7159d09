-- Numbers below a bound that pass a test: whether there is one, how many there are, the least, and the set of all.
use Rattle.std.specs.Prelude.{ℕ, zero, suc, ◌+◌, ◌||◌, Bool, false, Option, Some, None, if◌then◌else◌}
use Rattle.std.specs.Ordering.{nat_cmp}
use Rattle.std.specs.FinSet as set

-- some number below n passes the test
abbrev pub any_below : ℕ → (ℕ → Bool) → Bool
any_below zero test = false
any_below (suc n) test = test n || any_below n test

-- how many numbers below n pass the test
abbrev pub count_below : ℕ → (ℕ → Bool) → ℕ
count_below zero test = 0
count_below (suc n) test = (if test n then 1 else 0) + count_below n test

-- the least number below n that passes the test; None if none passes
abbrev pub first_below : ℕ → (ℕ → Bool) → Option ℕ
first_below zero test = None
first_below (suc n) test = if any_below n test then first_below n test else if test n then Some n else None

-- the set of the numbers below n that pass the test
unfoldable pub set_below : ℕ → (ℕ → Bool) → set.FinSet nat_cmp
set_below zero test = set.empty
set_below (suc n) test = if test n then set.insert (set_below n test) n else set_below n test
