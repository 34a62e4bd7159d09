-- Words that are made word by word of two others.
use Rattle.std.proofs.Common.{◌≡◌, ℕ, ◌+◌, ◌-◌, ◌^◌, ◌/◌, ◌<◌, ◌≤◌}
use Rattle.std.proofs.Common.{◌&&◌, Bool, not, eqb, List, length, get_or, bit_and}
use Rattle.std.proofs.Common.{min, zero, suc, refl, sym, arith, inl, inr, get_or-set_same, get_or-set_other}
use Rattle.std.proofs.Math.ListN.{set, length-set}
use Rattle.std.proofs.lemmas.Bool.{cases_eq, cases_lt}
use Rattle.std.proofs.lemmas.Nat.Bits.{bit_at_and, bit_at-lt, bit_at_not}
use Rattle.std.specs.Int.{bit_at, bit_not, w64}
use Rattle.go_base.specs.Bits.{set_words, is_marked}

-- a bit by which two are joined is 1 exactly if both are
both_bits : (a b : ℕ) → a < 2 → b < 2 → eqb (min a b) 1 ≡ (eqb a 1 && eqb b 1)
both_bits zero zero h k = refl
both_bits zero (suc zero) h k = refl
both_bits (suc zero) zero h k = refl
both_bits (suc zero) (suc zero) h k = refl
both_bits (suc (suc a)) b h k = absurd (omega arith)
both_bits zero (suc (suc b)) h k = absurd (omega arith)
both_bits (suc zero) (suc (suc b)) h k = absurd (omega arith)

-- a bit that two words have in common is set in both
pub common_bit : (a b k : ℕ) → eqb (bit_at (bit_and a b) k) 1 ≡ (eqb (bit_at a k) 1 && eqb (bit_at b k) 1)
common_bit a b k = grind (arith, bit_at_and, both_bits, bit_at-lt)

-- a bit that a word has and another has not
pub bit_apart : (a b k : ℕ) → b < 2 ^ 64 → k < 64
    → eqb (bit_at (bit_and a (bit_not w64 b)) k) 1 ≡ (eqb (bit_at a k) 1 && not (eqb (bit_at b k) 1))
bit_apart a b k small low = grind (arith, common_bit a (bit_not w64 b) k, bit_at_not w64 b k small low)

-- below word n each bit is what the test says of the two old ones, and from there on the words are the first ones
pub record IsMadeBelow (test : Bool → Bool → Bool) (old more : List ℕ) (n : ℕ) (new : List ℕ) : Type 0 where
  pub length : length new ≡ set_words
  pub made : (q : ℕ) → q / 64 < n → is_marked new q ≡ test (is_marked old q) (is_marked more q)
  pub rest : (j : ℕ) → n ≤ j → get_or new j 0 ≡ get_or old j 0
