-- Tests over the numbers below n.
use Rattle.std.proofs.Common.{◌≡◌, ℕ, zero, suc, ◌<◌, ◌≤◌, Bool, true, false, Some, None, refl, arith, inl, inr}
use Rattle.std.proofs.lemmas.Bool.{or_left, or_right, or_cases, or_parts, cases_Bool, cases_eq, both_ways}
use Rattle.go_rules.specs.Below.{any_below, count_below, first_below}

-- if some number passes
pub any_below_gives : (n : ℕ) (test : ℕ → Bool) → any_below n test ≡ true → (k : ℕ) × (k < n) × (test k ≡ true)
any_below_gives zero test h = absurd (both_ways false refl h)
any_below_gives (suc n) test h = grind (arith, or_cases, any_below_gives n test)

-- where a number passes, some number passes
pub any_below_from : (n : ℕ) (test : ℕ → Bool) (k : ℕ) → k < n → test k ≡ true → any_below n test ≡ true
any_below_from zero test k h t = absurd (omega arith)
any_below_from (suc n) test k h t = grind (arith, cases_eq, or_left, or_right, any_below_from n test k)

-- if none passes, this one does not
pub any_below_none : (n : ℕ) (test : ℕ → Bool) (k : ℕ) → any_below n test ≡ false → k < n → test k ≡ false
any_below_none zero test k h l = absurd (omega arith)
any_below_none (suc n) test k h l = grind (arith, or_parts, cases_eq, any_below_none n test k)

-- no more pass than there are
pub count_below_at_most : (n : ℕ) (test : ℕ → Bool) → count_below n test ≤ n
count_below_at_most zero test = omega arith
count_below_at_most (suc n) test = grind (arith, cases_Bool, count_below_at_most n test)

-- each number that passes the one test passes the other
pub count_below_mono : (n : ℕ) (a b : ℕ → Bool) → ((k : ℕ) → k < n → a k ≡ true → b k ≡ true)
    → count_below n a ≤ count_below n b
count_below_mono zero a b h = omega arith
count_below_mono (suc n) a b h =
    let rest : count_below n a ≤ count_below n b = count_below_mono n a b (λ k l. h k (omega arith)) in
    elim (cases_Bool (a n)) [
      | inl t ↦ rw (t, h n (omega arith) t) (omega arith)
      | inr f ↦ elim (cases_Bool (b n)) [ inl t ↦ rw (f, t) (omega arith) | inr g ↦ rw (f, g) (omega arith) ]
    ]

-- and one passes the other alone
pub count_below_less : (n : ℕ) (a b : ℕ → Bool) → ((k : ℕ) → k < n → a k ≡ true → b k ≡ true) → (q : ℕ) → q < n
    → a q ≡ false → b q ≡ true → count_below n a < count_below n b
count_below_less zero a b h q l miss hit = absurd (omega arith)
count_below_less (suc n) a b h q l miss hit =
    elim (cases_eq q n) [
      | inl e ↦ grind (arith, count_below_mono)
      | inr ne ↦
          let rest : count_below n a < count_below n b =
          count_below_less n a b (λ k l. h k (omega arith)) q (omega arith) miss hit in
          elim (cases_Bool (a n)) [
            | inl t ↦ rw (t, h n (omega arith) t) (omega arith)
            | inr f ↦ elim (cases_Bool (b n)) [ inl t ↦ rw (f, t) (omega arith) | inr g ↦ rw (f, g) (omega arith) ]
          ]
    ]

-- tests that agree below n agree on whether some number passes
pub any_below_same : (n : ℕ) (a b : ℕ → Bool) → ((k : ℕ) → k < n → a k ≡ b k) → any_below n a ≡ any_below n b
any_below_same zero a b h = refl
any_below_same (suc n) a b h = rw (h n (omega arith), any_below_same n a b (λ k l. h k (omega arith))) refl

-- tests that agree below n agree on how many pass
pub count_below_same : (n : ℕ) (a b : ℕ → Bool) → ((k : ℕ) → k < n → a k ≡ b k) → count_below n a ≡ count_below n b
count_below_same zero a b h = refl
count_below_same (suc n) a b h = rw (h n (omega arith), count_below_same n a b (λ k l. h k (omega arith))) refl

-- the least number that passes is below n and passes
pub first_below_gives : (n : ℕ) (test : ℕ → Bool) (q : ℕ) → first_below n test ≡ Some q → (q < n) × (test q ≡ true)
first_below_gives zero test q h = absurd (cc)
first_below_gives (suc n) test q h =
    elim (cases_Bool (any_below n test)) [
      | inl t ↦ let rest = first_below_gives n test q (rw t at h) in (omega (arith, rest.0), rest.1)
      | inr f ↦ grind (arith, cases_Bool)
    ]

-- if each fails, none passes
pub any_below_false : (n : ℕ) (test : ℕ → Bool) → ((k : ℕ) → k < n → test k ≡ false) → any_below n test ≡ false
any_below_false zero test h = refl
any_below_false (suc n) test h = rw (h n (omega arith), any_below_false n test (λ k l. h k (omega arith))) refl

-- a number that passes, and none before it, is the least
pub first_below_is : (n : ℕ) (test : ℕ → Bool) (q : ℕ) → q < n → test q ≡ true → ((r : ℕ) → r < q → test r ≡ false)
    → first_below n test ≡ Some q
first_below_is zero test q l t none = absurd (omega arith)
first_below_is (suc n) test q l t none =
    grind (arith, cases_eq q n, any_below_false n test, any_below_from n test q, first_below_is n test q)

-- if each fails, there is no least
pub first_below_none : (n : ℕ) (test : ℕ → Bool) → ((k : ℕ) → k < n → test k ≡ false) → first_below n test ≡ None
first_below_none zero test h = refl
first_below_none (suc n) test h = rw (any_below_false n test (λ k l. h k (omega arith)), h n (omega arith)) refl

-- if each fails, none is counted
pub count_below_none : (n : ℕ) (test : ℕ → Bool) → ((k : ℕ) → k < n → test k ≡ false) → count_below n test ≡ 0
count_below_none zero test h = refl
count_below_none (suc n) test h = rw (h n (omega arith), count_below_none n test (λ k l. h k (omega arith))) refl
