-- A string with enough liberties has one beside one given point, and beside two.
use Rattle.std.proofs.Common.{◌≡◌, ◌≢◌, ◌⊎◌, ℕ, ◌+◌, ◌*◌, ◌<◌, ◌≤◌, ◌&&◌, Bool, true, not, eqb}
use Rattle.std.proofs.Common.{List, ap, arith, inl, inr}
use Rattle.std.proofs.lemmas.Bool.{cases_Bool, cases_eq, eq-eqb, ne_eqb, and_parts, and_from, both_ways}
use Rattle.go_rules.specs.declared.Cell.{Cell}
use Rattle.go_rules.specs.Below.{any_below, count_below}
use Rattle.go_rules.specs.Strings.{is_liberty, liberties, IsLiberty}
use Rattle.go_rules.proofs.Counts.{any_below_gives, any_below_none, count_below_none}
use Rattle.trial_board.proofs.CapturedLemmas.{count_below-one}
use Rattle.go_rules.proofs.Paths.{IsLiberty-from_test, is_liberty-from_fact}

-- the numbers that pass and are not a
but : (ℕ → Bool) → ℕ → ℕ → Bool
but test a x = test x && not (eqb x a)

-- a number that passes and is not a
but_from : (test : ℕ → Bool) (a x : ℕ) → test x ≡ true → x ≢ a → but test a x ≡ true
unfolding but
but_from test a x t ne = and_from _ _ t (ap not (ne_eqb x a ne))

-- and back
but_parts : (test : ℕ → Bool) (a x : ℕ) → but test a x ≡ true → (test x ≡ true) × (x ≢ a)
unfolding but
but_parts test a x h = grind (arith, and_parts, both_ways, eq-eqb)

-- some number passes where at least one is counted
some_passes : (n : ℕ) (test : ℕ → Bool) → 0 < count_below n test → (x : ℕ) × (x < n) × (test x ≡ true)
some_passes n test some =
    grind (arith, cases_Bool (any_below n test), any_below_gives n test, count_below_none n test, any_below_none n test)

-- all numbers that pass but a are at most one fewer
but_one : (n : ℕ) (test : ℕ → Bool) (a : ℕ) → count_below n test ≤ count_below n (but test a) + 1
but_one n test a = count_below-one n a test (but test a) (λ k _ ne t. but_from test a k t ne)

-- The string of q.
module _ (s : ℕ) (cells : List Cell) (q : ℕ) where
  -- with two liberties it has one that is not l
  pub other_of_two : (l : ℕ) → 1 < liberties s cells q → (x : ℕ) × IsLiberty s cells q x × (x ≢ l)
  unfolding liberties
  other_of_two l two =
      let fewer = but_one (s * s) (is_liberty s cells q) l in
      let x = some_passes (s * s) (but (is_liberty s cells q) l) (omega (arith, two, fewer)) in
      let parts = but_parts (is_liberty s cells q) l x.0 x.2 in
      (x.0, IsLiberty-from_test s cells q x.0 parts.0, parts.1)

  -- with three it has one that is neither l nor p
  pub other_of_three : (l p : ℕ) → 2 < liberties s cells q → (x : ℕ) × IsLiberty s cells q x × (x ≢ l) × (x ≢ p)
  unfolding liberties
  other_of_three l p three =
      let fewer = but_one (s * s) (is_liberty s cells q) l in
      let fewest = but_one (s * s) (but (is_liberty s cells q) l) p in
      let x = some_passes (s * s) (but (but (is_liberty s cells q) l) p) (omega (arith, three, fewer, fewest)) in
      let parts = but_parts (but (is_liberty s cells q) l) p x.0 x.2 in
      let its = but_parts (is_liberty s cells q) l x.0 parts.0 in
      (x.0, IsLiberty-from_test s cells q x.0 its.0, its.1, parts.1)

  -- it has one that is not l, or l alone
  pub other_or_only : q < s * s → (l : ℕ)
      → ((x : ℕ) × IsLiberty s cells q x × (x ≢ l)) ⊎ ((x : ℕ) → IsLiberty s cells q x → x ≡ l)
  other_or_only on l = elim (cases_Bool (any_below (s * s) (but (is_liberty s cells q) l))) [
    | inl t ↦
        let x = any_below_gives (s * s) (but (is_liberty s cells q) l) t in
        let parts = but_parts (is_liberty s cells q) l x.0 x.2 in
        inl (x.0, IsLiberty-from_test s cells q x.0 parts.0, parts.1)
    | inr f ↦ inr (λ x lib. elim (cases_eq x l) [
      | inl e ↦ e
      | inr ne ↦ absurd (both_ways (but (is_liberty s cells q) l x)
          (any_below_none (s * s) (but (is_liberty s cells q) l) x f lib.on_board)
          (but_from (is_liberty s cells q) l x (is_liberty-from_fact s cells q x on lib) ne))
    ])
  ]
