-- The row of captured stones: what a play writes there, and that there is room for it.
use Rattle.std.proofs.Common.{◌≡◌, ◌≢◌, ℕ, zero, suc, ◌+◌, ◌<◌, ◌≤◌, Bool, IsTrue, true, false, cond}
use Rattle.std.proofs.Common.{List, length, refl, sym, ap, arith, inl, inr, ◌∙◌, add-one, get_or-set_same}
use Rattle.std.proofs.Common.{get_or-set_other}
use Rattle.std.specs.Prelude.{slice_index_or}
use Rattle.std.proofs.Math.ListN.{set, length-set}
use Rattle.std.proofs.lemmas.Bool.{both_ways, or_left, or_right, cases_Bool, cases_eq, cases_lt, eq-eqb, lt-ltb, le-ltb}
use Rattle.std.specs.Ordering.{nat_cmp}
use Rattle.std.specs.FinSet as sets
use Rattle.go_rules.specs.Below.{count_below, set_below}
use Rattle.go_rules.proofs.Counts.{count_below_mono}
use Rattle.go_rules.proofs.Sets.{same_nat_set, contains-set_below, contains-insert_nat, len-set_below, set_below-hit}
use Rattle.trial_board.specs.Captured.{points_in}

-- rows that are the same at some places have the same points there
pub points_in-same : (a b : List ℕ) (first n : ℕ)
    → ((i : ℕ) → i < first + n → slice_index_or a i 0 ≡ slice_index_or b i 0)
    → points_in a first n ≡ points_in b first n
points_in-same a b first zero h = refl
points_in-same a b first (suc n) h = grind (arith, points_in-same a b first n)

-- one place more has one point more
pub points_in-more : (row : List ℕ) (first n : ℕ) → sets.insert (points_in row first n)
    (slice_index_or row (first + n) 0) ≡ points_in row first (n + 1)
points_in-more row first n = ap (points_in row first) (sym (add-one n))

-- each of the places has one of the points
pub points_in-has : (row : List ℕ) (first n i : ℕ) → i < n
    → IsTrue (sets.contains (points_in row first n) (slice_index_or row (first + i) 0))
points_in-has row first zero i h = absurd (omega arith)
points_in-has row first (suc n) i h =
    grind (arith, contains-insert_nat, cases_eq, or_left, eq-eqb, or_right, points_in-has row first n i)

-- if no number from n on passes, the set is whole
pub set_below-rest : (n m : ℕ) (test : ℕ → Bool) → n ≤ m → ((k : ℕ) → n ≤ k → k < m → test k ≡ false)
    → set_below n test ≡ set_below m test
unfolding set_below
set_below-rest n zero test l h = let e : n ≡ zero = omega arith in ap (λ k. set_below k test) e
set_below-rest n (suc m) test l h = elim (cases_eq n (suc m)) [
  | inl e ↦ ap (λ k. set_below k test) e
  | inr ne ↦
      let miss : test m ≡ false = h m (omega arith) (omega arith) in
      set_below-rest n m test (omega arith) (λ k i j. h k i (omega arith))
      ∙ sym (ap (λ b. cond b (sets.insert (set_below m test) m) (set_below m test)) miss)
]

-- and so is the count
pub count_below-rest : (n m : ℕ) (test : ℕ → Bool) → n ≤ m → ((k : ℕ) → n ≤ k → k < m → test k ≡ false)
    → count_below n test ≡ count_below m test
count_below-rest n zero test l h = let e : n ≡ zero = omega arith in ap (λ k. count_below k test) e
count_below-rest n (suc m) test l h = elim (cases_eq n (suc m)) [
  | inl e ↦ ap (λ k. count_below k test) e
  | inr ne ↦
      let miss : test m ≡ false = h m (omega arith) (omega arith) in
      let rest = count_below-rest n m test (omega arith) (λ k i j. h k i (omega arith)) in
      rw miss (omega (arith, rest))
]

-- a number that passes is counted
pub count_below-hit : (n : ℕ) (test : ℕ → Bool) → test n ≡ true → count_below (suc n) test ≡ suc (count_below n test)
count_below-hit n test t = grind arith

-- fewer numbers are counted below a lesser bound
pub count_below-less : (n m : ℕ) (test : ℕ → Bool) → n ≤ m → count_below n test ≤ count_below m test
count_below-less n zero test l = let e : n ≡ zero = omega arith in rw e (omega arith)
count_below-less n (suc m) test l = grind (arith, cases_eq n (suc m), count_below-less n m test, cases_Bool (test m))

-- a number that passes at most one of two tests, and then a third, is counted no more often for the two
apart : (a b all : Bool) → (a ≡ true → (b ≡ false) × (all ≡ true)) → (b ≡ true → all ≡ true)
    → cond a 1 0 + cond b 1 0 ≤ cond all 1 0
apart true b all h i = let both = h refl in rw (both.0, both.1) (omega arith)
apart false true all h i = rw (i refl) (omega arith)
apart false false all h i = omega arith

-- two tests of which no number passes both, each within a third
pub count_below-two : (n : ℕ) (a b all : ℕ → Bool) → ((k : ℕ) → k < n → a k ≡ true → (b k ≡ false) × (all k ≡ true))
    → ((k : ℕ) → k < n → b k ≡ true → all k ≡ true)
    → count_below n a + count_below n b ≤ count_below n all
count_below-two zero a b all h i = omega arith
count_below-two (suc n) a b all h i = grind (arith, apart, count_below-two n a b all)

-- a number is counted once at most
once : (a : Bool) → cond a 1 0 ≤ 1
once true = omega arith
once false = omega arith

-- a test that differs from another at one number counts at most one more
pub count_below-one : (n p : ℕ) (a b : ℕ → Bool) → ((k : ℕ) → k < n → k ≢ p → a k ≡ true → b k ≡ true)
    → count_below n a ≤ count_below n b + 1
count_below-one zero p a b h = omega arith
count_below-one (suc n) p a b h =
    grind (arith, cases_eq, count_below_mono, once, apart, both_ways, count_below-one n p a b)

-- the points of the test below n are written into the row from the place `first` on, and what stands before it is as it
-- was
pub record Noted (test : ℕ → Bool) (first : ℕ) (old new : List ℕ) (count n : ℕ) : Type 0 where
  pub whole : length new ≡ length old
  pub counted : count ≡ count_below n test
  pub points : points_in new first count ≡ set_below n test
  pub before : (i : ℕ) → i < first → slice_index_or new i 0 ≡ slice_index_or old i 0

-- nothing is written of the points below 0
pub Noted-none : (test : ℕ → Bool) (first : ℕ) (row : List ℕ) → Noted test first row row 0 0
unfolding set_below
Noted-none test first row = record { whole = refl; counted = refl; points = refl; before = λ i l. refl }

-- no point of the test stands between
pub Noted-jump : {test : ℕ → Bool} {first : ℕ} {old new : List ℕ} {count n : ℕ} (m : ℕ)
    → Noted test first old new count n → n ≤ m → ((k : ℕ) → n ≤ k → k < m → test k ≡ false)
    → Noted test first old new count m
Noted-jump {test = test} {n = n} m noted l none = grind (arith, count_below-rest, set_below-rest)

-- a place more, into which n was written, has n more
points_in-put : (row : List ℕ) (first count n : ℕ) → first + count < length row
    → points_in (set row (first + count) n) first (count + 1) ≡ sets.insert (points_in row first count) n
points_in-put row first count n room = grind (arith, points_in-more, points_in-same, get_or-set_other, get_or-set_same)

-- one more point of the test was written
Noted-hit : {test : ℕ → Bool} {first : ℕ} {old new : List ℕ} {count n : ℕ} → Noted test first old new count n
    → first + count < length new → test n ≡ true → Noted test first old (set new (first + count) n) (count + 1) (n + 1)
Noted-hit {test} {first} {old} {new} {count} {n} noted room hit =
    grind (arith, length-set, add-one, count_below-hit, points_in-put, set_below-hit, get_or-set_other)

-- a point of the test was come to, with none before it, and was written
pub Noted-next : {test : ℕ → Bool} {first : ℕ} {old row : List ℕ} {count n : ℕ} (q : ℕ)
    → Noted test first old row count n → n ≤ q → ((k : ℕ) → n ≤ k → k < q → test k ≡ false) → test q ≡ true
    → first + count < length row → Noted test first old (set row (first + count) q) (count + 1) (q + 1)
Noted-next q noted l none hit room = Noted-hit (Noted-jump q noted l none) room hit

-- a set whose members are below n is that of the numbers below n that are its members
pub members_below : (points : sets.FinSet nat_cmp) (n : ℕ) → ((q : ℕ) → n ≤ q → sets.contains points q ≡ false)
    → set_below n (sets.contains points) ≡ points
members_below points n h = grind (arith, same_nat_set, contains-set_below, cases_lt, lt-ltb, le-ltb)

-- a set whose members are below m has as many as are counted below m
len_counted : (points : sets.FinSet nat_cmp) (m : ℕ) → ((r : ℕ) → IsTrue (sets.contains points r) → r < m)
    → sets.len points ≡ count_below m (sets.contains points)
len_counted points m small = grind (arith, members_below points m, len-set_below m (sets.contains points), cases_Bool)

-- where q passes, more pass below a bound above q than below n, if none from n on comes before q
counted_more : (n q m : ℕ) (test : ℕ → Bool) → n ≤ q → ((k : ℕ) → n ≤ k → k < q → test k ≡ false) → test q ≡ true
    → q < m → count_below n test < count_below m test
counted_more n q m test l none hit below =
    grind (arith, count_below-rest n q test l none, count_below-hit q test hit, count_below-less (suc q) m test below)

-- there is a place for the next member, if there are places for all, which are below m
pub Noted-room : (points : sets.FinSet nat_cmp) {first : ℕ} {old row : List ℕ} {count n : ℕ} (q m places : ℕ)
    → Noted (sets.contains points) first old row count n → n ≤ q
    → ((k : ℕ) → n ≤ k → k < q → sets.contains points k ≡ false) → sets.contains points q ≡ true
    → ((r : ℕ) → IsTrue (sets.contains points r) → r < m)
    → first + sets.len points ≤ places → first + count < places
Noted-room points {n = n} q m places noted l none hit small room =
    grind (arith, counted_more n q m (sets.contains points) l none hit (small q hit), len_counted points m small)

-- if no member is left, as many were written as there are
pub Noted-all : (points : sets.FinSet nat_cmp) {first : ℕ} {old row : List ℕ} {count n : ℕ}
    → Noted (sets.contains points) first old row count n → ((k : ℕ) → n ≤ k → sets.contains points k ≡ false)
    → points_in row first (sets.len points) ≡ points
Noted-all points {first = first} {row = row} {n = n} noted none = grind (arith, members_below, len-set_below)

-- a row has the points of an empty set in no place
pub points_in-none : (row : List ℕ) (first : ℕ) (points : sets.FinSet nat_cmp) → sets.len points ≡ 0
    → points_in row first (sets.len points) ≡ points
points_in-none row first points none = ap (points_in row first) none ∙ sym (sets.empty_of_len points none)
