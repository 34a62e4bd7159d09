-- What the set of the numbers below n that pass has.
use Rattle.std.proofs.Common.{◌≡◌, ℕ, zero, suc, ◌+◌, ◌||◌, ◌&&◌, Bool, true, eqb, ltb, refl, ap, arith}
use Rattle.std.proofs.Common.{◌≢◌, inl, inr, ◌∙◌, add-one}
use Rattle.std.proofs.lemmas.Bool.{cases_Bool, cases_eq, cases_lt, lt-ltb, le-ltb, eq-eqb, ne_eqb}
use Rattle.std.specs.Ordering.{nat_cmp, eq_by_cmp}
use Rattle.std.specs.Cmp.{nat_cmp_total, unsigned_tied}
use Rattle.std.specs.FinSet as set
use Rattle.go_rules.specs.Below.{set_below, count_below}

-- numbers that compare as equal are equal
pub eq_by_nat_cmp : (q k : ℕ) → eq_by_cmp nat_cmp q k ≡ eqb q k
eq_by_nat_cmp q k = unsigned_tied q k

-- a set with one more member
pub contains-insert_nat : (s : set.FinSet nat_cmp) (k q : ℕ)
    → set.contains (set.insert s k) q ≡ (eqb q k || set.contains s q)
contains-insert_nat s k q =
    set.contains-insert nat_cmp_total s k q ∙ ap (λ b. b || set.contains s q) (eq_by_nat_cmp q k)

-- two sets of numbers with the same members
pub same_nat_set : (s t : set.FinSet nat_cmp) → ((q : ℕ) → set.contains s q ≡ set.contains t q) → s ≡ t
same_nat_set s t h = set.same_set nat_cmp_total set.nat_cmp-IsAntisymmetric s t h

-- another number than n is below n + 1 exactly if it is below n
ltb-other : (q n : ℕ) → q ≢ n → ltb q (suc n) ≡ ltb q n
ltb-other q n ne = grind (arith, cases_lt, lt-ltb, le-ltb)

-- the members of the set are the numbers below n that pass
pub contains-set_below : (n : ℕ) (test : ℕ → Bool) (q : ℕ) → set.contains (set_below n test) q ≡ (ltb q n && test q)
unfolding set_below
contains-set_below zero test q = rw (le-ltb q 0 (omega arith)) (set.contains-empty nat_cmp q)
contains-set_below (suc n) test q =
    grind (
      arith,
      cases_Bool,
      contains-insert_nat,
      cases_eq,
      eq-eqb,
      lt-ltb,
      ne_eqb,
      ltb-other,
      le-ltb,
      contains-set_below n test q,
    )

-- the set has as many members as numbers pass
pub len-set_below : (n : ℕ) (test : ℕ → Bool) → set.len (set_below n test) ≡ count_below n test
unfolding set_below
len-set_below zero test = set.len-empty nat_cmp
len-set_below (suc n) test =
    elim (cases_Bool (test n)) [
      | inl t ↦
          rw (
            t,
            set.len-insert nat_cmp_total (set_below n test) n,
            contains-set_below n test n,
            le-ltb n n (omega arith),
            len-set_below n test,
          ) (omega arith)
      | inr f ↦ rw (f, len-set_below n test) (omega arith)
    ]

-- no number is below 0
pub set_below-none : (test : ℕ → Bool) → set.empty ≡ set_below 0 test
unfolding set_below
set_below-none test = refl

-- a number that passes comes
pub set_below-hit : (n : ℕ) (test : ℕ → Bool) → test n ≡ true → set.insert (set_below n test) n ≡ set_below (n + 1) test
unfolding set_below
set_below-hit n test t = grind (arith, add-one)
