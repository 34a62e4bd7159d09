-- The bits of a word: without the lowest, the first of them, and those of points.
use Rattle.std.proofs.Common.{◌≡◌, ℕ, ◌+◌, ◌-◌, ◌*◌, ◌/◌, ◌%◌, ◌^◌, ◌<◌, List, bit_and, get_or}
use Rattle.std.proofs.Common.{eqb, sym, ap, arith, inl, inr, ◌∙◌}
use Rattle.std.proofs.Math.Nat.{min-le_left, min-le_right, div-add-mod, mod-lt, mod-eq_of_lt, mul_comm}
use Rattle.std.proofs.lemmas.Bool.{cases_eq, cases_lt}
use Rattle.std.proofs.lemmas.Nat.{and_le_r, pow_pos}
use Rattle.std.proofs.lemmas.Nat.Bits.{bit_at-zero, bit_at-lt, bit_at_and, bit_at_cat_low, bit_at_cat_high, bit_at_ones}
use Rattle.std.proofs.lemmas.Nat.Bits.{bit_at_ones_above}
use Rattle.std.proofs.Math.Pow.{pow-lt}
use Rattle.std.specs.Int.{bit_at}
use Rattle.go_base.specs.Bits.{is_marked}

-- a word without its lowest bit
abbrev pub without_lowest : ℕ → ℕ
without_lowest word = bit_and word (word - 1)

-- a word without its lowest bit is less
pub without_lowest-lt : (word : ℕ) → 0 < word → without_lowest word < word
without_lowest-lt word some = grind (arith, and_le_r)

-- a bit that is set in it is set in the word
pub without_lowest-only : (word i : ℕ) → bit_at (without_lowest word) i ≡ 1 → bit_at word i ≡ 1
without_lowest-only word i hit = grind (arith, bit_at_and, min-le_left, bit_at-lt)

-- the number before a word has the same bits above each bit that is set in the word
before_above : (word k i : ℕ) → k < i → bit_at word k ≡ 1 → bit_at (word - 1) i ≡ bit_at word i
before_above word k i above hit =
    let high : ℕ = word / 2 ^ i in
    let low : ℕ = word % 2 ^ i in
    let parts : word ≡ high * 2 ^ i + low =
    sym (div-add-mod word (2 ^ i)) ∙ ap (λ n. n + low) (mul_comm (2 ^ i) high) in
    let small : low < 2 ^ i = mod-lt word (pow_pos i) in
    elim (cases_eq low 0) [
      | inl none ↦ grind (arith, bit_at_cat_low high i low k above, bit_at-zero k)
      | inr some ↦
          let before : word - 1 ≡ high * 2 ^ i + (low - 1) = omega (arith, parts, some) in
          ap (λ n. bit_at n i) before ∙ bit_at_cat_high high i (low - 1) i (omega (arith, small)) (omega arith)
          ∙ sym (ap (λ n. bit_at n i) parts ∙ bit_at_cat_high high i low i small (omega arith))
    ]

-- if no bit below a set one is set, each bit of the word that is not left is that one
pub without_lowest-one : (word k i : ℕ) → bit_at word k ≡ 1 → ((j : ℕ) → j < k → bit_at word j ≡ 0)
    → bit_at word i ≡ 1 → bit_at (without_lowest word) i ≡ 0 → i ≡ k
without_lowest-one word k i lowest misses hit clear = grind (arith, cases_lt, cases_eq, before_above, bit_at_and)

-- the first n bits of a word
abbrev pub first_bits : ℕ → ℕ → ℕ
first_bits word n = bit_and word (1 * 2 ^ n % 18446744073709551616 - 1)

-- their mask is n ones
first_ones : (n : ℕ) → n < 64 → 1 * 2 ^ n % 18446744073709551616 - 1 ≡ 2 ^ n - 1
first_ones n small = grind (arith, pow-lt, mod-eq_of_lt)

-- each of them is one of the word's, and stands below n
pub first_bits-only : (word n k : ℕ) → n < 64 → bit_at (first_bits word n) k ≡ 1 → (k < n) × (bit_at word k ≡ 1)
first_bits-only word n k small hit =
    grind (arith, bit_and, first_ones, bit_at_and, min-le_left, min-le_right, bit_at-lt, cases_lt, bit_at_ones_above)

-- and each of the word's that stands below n is one of them
pub first_bits-kept : (word n k : ℕ) → n < 64 → k < n → bit_at word k ≡ 1 → bit_at (first_bits word n) k ≡ 1
first_bits-kept word n k small below hit = grind (arith, bit_and, first_ones, bit_at_and, bit_at_ones)

-- a point is marked where its bit is set in the word that begins at or before it
pub is_marked-in_word : (words : List ℕ) (base k : ℕ) → base % 64 ≡ 0 → k < 64
    → is_marked words (base + k) ≡ eqb (bit_at (get_or words (base / 64) 0) k) 1
is_marked-in_word words base k aligned small = grind arith
