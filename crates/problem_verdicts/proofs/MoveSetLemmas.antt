-- When moves are among others, and when they are the same.
use Rattle.std.proofs.Common.{◌≡◌, ℕ, zero, suc, Bool, true, false, ◌&&◌, ◌||◌, not, ◌==◌, refl, sym, ap, ◌∙◌, arith}
use Rattle.std.specs.Ordering.{nat_cmp}
use Rattle.std.specs.Cmp.{nat_cmp_total}
use Rattle.std.specs.FinSet as set
use Rattle.std.proofs.lemmas.Bool.{ne_eqb}
use Rattle.go_rules.proofs.Sets.{contains-insert_nat, same_nat_set}
use Rattle.problem_verdicts.specs.declared.moves.Moves.{Moves}
use Rattle.problem_verdicts.specs.MoveSets.{are_among, AreAmong, AreSameMoves}

-- of two facts that hold together each holds
pub both : (a b : Bool) → (a && b) ≡ true → (a ≡ true) × (b ≡ true)
both true true h = (refl, refl)
both true false h = absurd (cc)
both false b h = absurd (cc)

-- two facts that each hold hold together
pub together : (a b : Bool) → a ≡ true → b ≡ true → (a && b) ≡ true
together true true h k = refl
together true false h k = absurd (cc)
together false b h k = absurd (cc)

-- either not the first or the second: the second follows from the first
pub follows : (a b : Bool) → (not a || b) ≡ true → a ≡ true → b ≡ true
follows true true h k = refl
follows true false h k = absurd (cc)
follows false b h k = absurd (cc)

-- the second fact follows from the first: either not the first or the second
pub if_follows : (a b : Bool) → (a ≡ true → b ≡ true) → (not a || b) ≡ true
if_follows true b h = h refl
if_follows false b h = refl

-- what follows from the first leaves nothing of it alone
nothing_alone : (a b : Bool) → (a ≡ true → b ≡ true) → (a && not b) ≡ false
nothing_alone true true h = refl
nothing_alone true false h = let bad : false ≡ true = h refl in absurd (cc)
nothing_alone false b h = refl

-- and the other way round
alone_nothing : (a b : Bool) → (a && not b) ≡ false → a ≡ true → b ≡ true
alone_nothing true true h k = refl
alone_nothing true false h k = absurd (cc)
alone_nothing false b h k = absurd (cc)

-- two facts that follow from each other are the same
same_fact : (a b : Bool) → (a ≡ true → b ≡ true) → (b ≡ true → a ≡ true) → a ≡ b
same_fact true b h k = sym (h refl)
same_fact false true h k = k refl
same_fact false false h k = refl

-- which of two facts stands first does not matter
turned : (a b : Bool) → (a || b) ≡ (b || a)
turned true true = refl
turned true false = refl
turned false true = refl
turned false false = refl

-- a set with one point more
pub with_point : (s : set.FinSet nat_cmp) (p q : ℕ)
    → set.contains (set.insert s p) q ≡ (set.contains s q || q == p)
with_point s p q = contains-insert_nat s p q ∙ turned (q == p) (set.contains s q)

-- of points that are all in a set none is left without it
none_left : (s t : set.FinSet nat_cmp) → set.is_subset s t ≡ true → set.len (set.difference s t) ≡ 0
none_left s t h =
    ap set.len (same_nat_set (set.difference s t) set.empty
    (λ q. set.contains-difference nat_cmp_total s t q
    ∙ (nothing_alone (set.contains s q) (set.contains t q) (set.is_subset-contains nat_cmp_total s t h q)
    ∙ sym (set.contains-empty nat_cmp q)))) ∙ set.len-empty nat_cmp

-- points of which none is left without a set are all in it
all_in : (s t : set.FinSet nat_cmp) → set.len (set.difference s t) ≡ 0 → set.is_subset s t ≡ true
all_in s t e =
    set.contains-is_subset nat_cmp_total s t (λ q h. alone_nothing (set.contains s q) (set.contains t q)
    (sym (set.contains-difference nat_cmp_total s t q)
    ∙ (ap (λ (r : set.FinSet nat_cmp). set.contains r q) (set.empty_of_len (set.difference s t) e)
    ∙ set.contains-empty nat_cmp q)) h)

-- a count that is 0 exactly if a fact holds
counts_none : (n : ℕ) (b : Bool) → (b ≡ true → n ≡ 0) → (n ≡ 0 → b ≡ true) → (n == 0) ≡ b
counts_none zero b h k = sym (k refl)
counts_none (suc n) true h k = let bad : suc n ≡ 0 = h refl in absurd (omega arith)
counts_none (suc n) false h k = ne_eqb (suc n) 0 (λ e. omega (arith, e))

-- how many are left says whether they are all in the set
pub subset_by_count : (s t : set.FinSet nat_cmp) → (set.len (set.difference s t) == 0) ≡ set.is_subset s t
subset_by_count s t = counts_none (set.len (set.difference s t)) (set.is_subset s t) (none_left s t) (all_in s t)

-- moves are among others by the test
pub among_by_test : (few many : Moves) → are_among few many ≡ true → AreAmong few many
among_by_test few many h =
    let parts = both (not few.pass || many.pass) (set.is_subset few.points many.points) h in
    record {
      passes = follows few.pass many.pass parts.0;
      plays = set.is_subset-contains nat_cmp_total few.points many.points parts.1;
    }

-- moves that are among others pass the test
pub test_by_among : (few many : Moves) → AreAmong few many → are_among few many ≡ true
test_by_among few many h =
    together (not few.pass || many.pass) (set.is_subset few.points many.points)
    (if_follows few.pass many.pass h.passes) (set.contains-is_subset nat_cmp_total few.points many.points h.plays)

-- moves that are among each other are the same
pub same_by_tests : (these those : Moves) → are_among these those ≡ true → are_among those these ≡ true
    → AreSameMoves these those
same_by_tests these those h k =
    let there = among_by_test these those h in
    let back = among_by_test those these k in
    record {
      passes = same_fact these.pass those.pass there.passes back.passes;
      plays = λ p. same_fact (set.contains these.points p) (set.contains those.points p) (there.plays p) (back.plays p);
    }

-- the same moves are among each other
pub tests_by_same : (these those : Moves) → AreSameMoves these those
    → (are_among these those ≡ true) × (are_among those these ≡ true)
tests_by_same these those h = (
  test_by_among these those (record {
    passes = λ e. sym h.passes ∙ e;
    plays = λ p e. sym (h.plays p) ∙ e;
  }),
  test_by_among those these (record {
    passes = λ e. h.passes ∙ e;
    plays = λ p e. h.plays p ∙ e;
  }),
)
