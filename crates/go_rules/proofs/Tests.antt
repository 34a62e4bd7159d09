-- What holds of tests and comparisons of any kind.
use Rattle.std.proofs.Common.{◌≡◌, ℕ, ◌||◌, ◌&&◌, Bool, true, false, eqb, refl, sym, arith}
use Rattle.std.proofs.lemmas.Bool.{cases_eq, eq-eqb, ne_eqb}

-- two tests of which each passes where the other does are the same
pub same_tests : (a b : Bool) → (a ≡ true → b ≡ true) → (b ≡ true → a ≡ true) → a ≡ b
same_tests true true f g = refl
same_tests false false f g = refl
same_tests true false f g = sym (f refl)
same_tests false true f g = g refl

-- which number is compared with which does not matter
pub eqb_comm : (a b : ℕ) → eqb a b ≡ eqb b a
eqb_comm a b = grind (arith, cases_eq, eq-eqb, ne_eqb)

-- which of two tests comes first does not matter
pub or_comm : (a b : Bool) → (a || b) ≡ (b || a)
or_comm true true = refl
or_comm true false = refl
or_comm false true = refl
or_comm false false = refl

-- a test fails together with one that fails
pub and-false : (b : Bool) → (b && false) ≡ false
and-false true = refl
and-false false = refl

-- a test or one that fails is the test
pub or-false : (a : Bool) → a ≡ (a || false)
or-false true = refl
or-false false = refl
