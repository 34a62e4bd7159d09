-- One set added to another point by point.
use Rattle.std.proofs.Common.{◌≡◌, ℕ, ◌+◌, ◌<◌, ◌≤◌, ◌||◌, ◌&&◌, Bool, true, false, ltb, refl, sym, arith, inl, inr}
use Rattle.std.proofs.Common.{◌∙◌}
use Rattle.std.proofs.lemmas.Bool.{cases_eq, cases_lt, eq-eqb, ne_eqb, lt-ltb, le-ltb}
use Rattle.std.specs.Ordering.{nat_cmp}
use Rattle.std.specs.Cmp.{nat_cmp_total}
use Rattle.std.specs.FinSet as sets
use Rattle.go_rules.proofs.Sets.{contains-insert_nat, same_nat_set}
use Rattle.go_rules.proofs.Tests.{or-false}

-- the members below n have come
abbrev pub JoinedBelow : sets.FinSet nat_cmp → sets.FinSet nat_cmp → ℕ → sets.FinSet nat_cmp → Type 0
JoinedBelow old more n new = (r : ℕ) → sets.contains new r ≡ (sets.contains old r || (ltb r n && sets.contains more r))

-- no member below 0 came
pub joined_none : (old more : sets.FinSet nat_cmp) → JoinedBelow old more 0 old
joined_none old more r = rw (le-ltb r 0 (omega arith)) (or-false _)

-- a test or one that passes passes
or-true : (a : Bool) → (a || true) ≡ true
or-true true = refl
or-true false = refl

-- the next member came
pub joined_next : (old more new : sets.FinSet nat_cmp) (n m : ℕ) → n ≤ m → JoinedBelow old more n new
    → ((k : ℕ) → n ≤ k → k < m → sets.contains more k ≡ false) → sets.contains more m ≡ true
    → JoinedBelow old more (m + 1) (sets.insert new m)
joined_next old more new n m l h none hit =
    grind (arith, contains-insert_nat, cases_eq, cases_lt, lt-ltb, le-ltb, eq-eqb, or-true, ne_eqb)

-- if no member is left, all of the other set came
pub joined_all : (old more new : sets.FinSet nat_cmp) (n : ℕ) → JoinedBelow old more n new
    → ((r : ℕ) → n ≤ r → sets.contains more r ≡ false) → new ≡ sets.union old more
joined_all old more new n h above = same_nat_set _ _ (λ r. h r ∙ elim (cases_lt r n) [
  | inl l ↦ rw (lt-ltb r n l) refl
  | inr g ↦ rw (le-ltb r n g, above r g) refl
] ∙ sym (sets.contains-union nat_cmp_total old more r))
