-- What is known of a node under one ko allowance, for each number of plies left, and when this is true.
use Rattle.std.specs.Prelude.{◌≡◌, ℕ, suc, ◌<◌, Bool, true, false, not, nat_lt, Option, Some, None}
use Rattle.read_tree.specs.declared.known_plies.KnownPlies.{KnownPlies}

-- there is a least number, and n is at least that number
abbrev pub is_from : Option ℕ → ℕ → Bool
is_from None n = false
is_from (Some least) n = not (nat_lt n least)

-- if the attacker wins with n plies, he wins with one more
pub record IsMonotone (won : ℕ → Bool) : Type 0 where
  pub more : (n : ℕ) → won n ≡ true → won (suc n) ≡ true

-- what is known is true: the attacker wins with each number of plies with which he is known to win, and with none with
-- which he is known not to win
pub record IsTrueKnown (won : ℕ → Bool) (known : KnownPlies) : Type 0 where
  pub gives : (n : ℕ) → is_from known.won_from n ≡ true → won n ≡ true
  pub denies : (n : ℕ) → n < known.lost_below → won n ≡ false
