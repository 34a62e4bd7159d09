-- Words that have the bits of two others.
use Rattle.std.proofs.Common.{◌≡◌, ℕ, zero, suc, ◌+◌, ◌/◌, ◌<◌, ◌||◌, ◌&&◌}
use Rattle.std.proofs.Common.{eqb, ltb, max, List, length, get_or, bit_or, refl}
use Rattle.std.proofs.Common.{arith, get_or-set_same, get_or-set_other, length-set}
use Rattle.std.proofs.Math.ListN.{set, get_or-eq_default}
use Rattle.std.proofs.lemmas.Bool.{cases_lt, lt-ltb, le-ltb}
use Rattle.std.proofs.lemmas.Nat.Bits.{bit_at_or, bit_at-lt, bit_at-zero}
use Rattle.std.specs.Int.{bit_at}
use Rattle.go_rules.proofs.Tests.{or-false}
use Rattle.go_base.specs.Bits.{set_words, is_marked}

-- the larger of two bits is 1 exactly if one of them is
larger_bit : (a b : ℕ) → a < 2 → b < 2 → eqb (max a b) 1 ≡ (eqb a 1 || eqb b 1)
larger_bit zero zero h k = refl
larger_bit zero (suc zero) h k = refl
larger_bit (suc zero) zero h k = refl
larger_bit (suc zero) (suc zero) h k = refl
larger_bit (suc (suc a)) b h k = absurd (omega arith)
larger_bit zero (suc (suc b)) h k = absurd (omega arith)
larger_bit (suc zero) (suc (suc b)) h k = absurd (omega arith)

-- a bit of two words together is set exactly if it is in one of them
pub bit_of_both : (a b k : ℕ) → eqb (bit_at (bit_or a b) k) 1 ≡ (eqb (bit_at a k) 1 || eqb (bit_at b k) 1)
bit_of_both a b k = grind (arith, bit_at_or, larger_bit, bit_at-lt)

-- the words below n have the bits of both, and those from n on have the bits of the old ones
pub record HasBoth (old more : List ℕ) (n : ℕ) (new : List ℕ) : Type 0 where
  pub length : length new ≡ set_words
  pub bits : (q : ℕ) → is_marked new q ≡ (is_marked old q || (ltb (q / 64) n && is_marked more q))

-- no word has them yet
pub both_none : (old more : List ℕ) → length old ≡ set_words → HasBoth old more 0 old
both_none old more six = record { length = six; bits = λ q. rw (le-ltb (q / 64) 0 (omega arith)) (or-false _) }

-- word n with the bits of both
abbrev pub with_both : List ℕ → List ℕ → ℕ → List ℕ
with_both new more n = set new n (bit_or (get_or new n 0) (get_or more n 0))

-- word n has them now
pub both_next : (old more new : List ℕ) (n : ℕ) → n < set_words → HasBoth old more n new
    → HasBoth old more (n + 1) (with_both new more n)
both_next old more new n on h = grind (arith, length-set, get_or-set_same, bit_of_both, get_or-set_other)

-- where every word has them, the words mark what one of the two marks
pub both_all : (old more new : List ℕ) (n : ℕ) → n ≡ set_words → length more ≡ set_words → HasBoth old more n new
    → (q : ℕ) → is_marked new q ≡ (is_marked old q || is_marked more q)
both_all old more new n all six h q = grind (arith, cases_lt, lt-ltb, le-ltb, get_or-eq_default, bit_at-zero)
