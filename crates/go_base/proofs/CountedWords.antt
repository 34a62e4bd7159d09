-- How many points the words mark, and which words mark one.
use Rattle.std.proofs.Common.{◌≡◌, ℕ, zero, suc, ◌+◌, ◌*◌, ◌/◌, ◌%◌, ◌^◌, ◌<◌, ◌≤◌, Bool, true, false, cond, eqb, List}
use Rattle.std.proofs.Common.{get_or, count_ones, refl, sym, ap, arith, inl, inr, ◌∙◌}
use Rattle.std.proofs.lemmas.Bool.{cases_Bool, cases_eq, both_ways}
use Rattle.std.proofs.lemmas.Nat.{div-mul-add, mod-mul-add, ones_le_self}
use Rattle.std.proofs.lemmas.Nat.Bits.{bit_at_lowest, bit_at-suc, bit_at-zero, bit_at_set_same, bit_at_set_other}
use lib.Count.{ones_step}
use Rattle.std.specs.Int.{bit_at, w16}
use Rattle.std.specs.FinSet as sets
use Rattle.go_rules.specs.Below.{count_below}
use Rattle.go_rules.specs.Board.{largest_points}
use Rattle.go_rules.proofs.Sets.{len-set_below}
use Rattle.go_rules.proofs.Counts.{count_below_none, count_below_same, count_below_at_most}
use Rattle.go_base.specs.Bits.{set_words, is_marked, marked, bits_set, IsNoteOf}
use Rattle.go_base.proofs.UsedWords.{with_word}

-- the number 0 is counted by itself
count_first : (n : ℕ) (test : ℕ → Bool)
    → count_below (suc n) test ≡ cond (test 0) 1 0 + count_below n (λ k. test (suc k))
count_first zero test = refl
count_first (suc n) test = grind (arith, count_first n test)

-- a bit counts as it is
bit_counts : (b : ℕ) → b < 2 → cond (eqb b 1) 1 0 ≡ b
bit_counts zero h = refl
bit_counts (suc zero) h = refl
bit_counts (suc (suc b)) h = absurd (omega arith)

-- the ones of a number of n bits
pub ones_counted : (n word : ℕ) → word < 2 ^ n → count_ones word ≡ count_below n (λ k. eqb (bit_at word k) 1)
ones_counted zero word h = let few = ones_le_self word in omega (arith, few, h)
ones_counted (suc n) word h =
    let half : word / 2 < 2 ^ n = omega (arith, h, pow_two n) in
    ones_step word
    ∙ ap (λ m. m + count_ones (word / 2)) (sym (ap (λ b. cond (eqb b 1) 1 0) (bit_at_lowest word)
    ∙ bit_counts (word % 2) (omega arith)))
    ∙ ap (λ m. cond (eqb (bit_at word 0) 1) 1 0 + m) (ones_counted n (word / 2) half
    ∙ count_below_same n _ _ (λ k l. ap (λ b. eqb b 1) (sym (bit_at-suc word k))))
    ∙ sym (count_first n (λ k. eqb (bit_at word k) 1))
  where
    pow_two : (n : ℕ) → 2 ^ suc n ≡ 2 * 2 ^ n
    pow_two n = omega arith

-- the ones of a word
pub word_counted : (word : ℕ) → word < 2 ^ 64 → count_ones word ≡ bits_set word
unfolding bits_set
word_counted word h = ones_counted 64 word h

-- numbers below a sum are those below its first part, and the others
count_sum : (a b : ℕ) (test : ℕ → Bool)
    → count_below (a + b) test ≡ count_below a test + count_below b (λ k. test (a + k))
count_sum a zero test = grind arith
count_sum a (suc b) test =
    let next : a + suc b ≡ suc (a + b) = omega arith in
    ap (λ n. count_below n test) next
    ∙ ap (λ m. cond (test (a + b)) 1 0 + m) (count_sum a b test)
    ∙ swapped (cond (test (a + b)) 1 0) (count_below a test) (count_below b (λ k. test (a + k)))
  where
    swapped : (a b c : ℕ) → a + (b + c) ≡ b + (a + c)
    swapped a b c = omega arith

-- if no number from n on passes, those below n are counted alone
count_past : (n spare all : ℕ) (test : ℕ → Bool) → all ≡ n + spare → ((q : ℕ) → test q ≡ true → q < n)
    → count_below all test ≡ count_below n test
count_past n spare all test e below = grind (arith, count_sum, count_below_none, cases_Bool)

-- no point of no word is marked
pub counted_none : (words : List ℕ) → 0 ≡ count_below (0 * 64) (is_marked words)
counted_none words = refl

-- the points of one word more
pub counted_next : (words : List ℕ) (i count ones : ℕ) → count ≡ count_below (i * 64) (is_marked words)
    → ones ≡ bits_set (get_or words i 0)
    → count + ones ≡ count_below ((i + 1) * 64) (is_marked words)
unfolding bits_set
counted_next words i count ones before here =
    grind (arith, count_below_same 64, count_sum (i * 64) 64 (is_marked words), div-mul-add i 64, mod-mul-add i 64)

-- a word has no more ones than bits
pub bits_set_few : (word : ℕ) → bits_set word ≤ 64
unfolding bits_set
bits_set_few word = count_below_at_most 64 (λ k. eqb (bit_at word k) 1)

-- no more points are counted than there are bits
pub counted_few : (words : List ℕ) (i count : ℕ) → count ≡ count_below (i * 64) (is_marked words) → count ≤ i * 64
counted_few words i count h = let most = count_below_at_most (i * 64) (is_marked words) in omega (arith, h, most)

-- all words were counted, and each point that is marked is one of the largest board
pub counted_all : (words : List ℕ) (i count : ℕ) → i ≡ set_words
    → ((q : ℕ) → is_marked words q ≡ true → q < largest_points) → count ≡ count_below (i * 64) (is_marked words)
    → count ≡ sets.len (marked words)
unfolding marked
counted_all words i count all on h =
    h ∙ count_past largest_points 15 (i * 64) (is_marked words) (ap (λ n. n * 64) all) on
    ∙ sym (len-set_below largest_points (is_marked words))

-- used notes the words below n that mark a point, and no other
pub record IsNoteBelow (words : List ℕ) (n used : ℕ) : Type 0 where
  pub noted : (q : ℕ) → q / 64 < n → is_marked words q ≡ true → bit_at used (q / 64) ≡ 1
  pub only : (i : ℕ) → bit_at used i ≡ 1 → (i < n) × ((q : ℕ) × (q / 64 ≡ i) × (is_marked words q ≡ true))

-- no word is noted
pub noted_none : (words : List ℕ) → IsNoteBelow words 0 0
noted_none words = grind (arith, bit_at-zero)

-- word n marks a point, and is noted
pub noted_next : (words : List ℕ) (n used : ℕ) → n < set_words
    → (q : ℕ) × (q / 64 ≡ n) × (is_marked words q ≡ true) → IsNoteBelow words n used
    → IsNoteBelow words (n + 1) (with_word used n)
noted_next words n used on some is = record {
  noted = grind (arith, bit_at_set_same w16 used n small, bit_at_set_other w16 used n small, cases_eq, small);
  only = λ i h. elim (cases_eq i n) [
    | inl e ↦ (omega (arith, e), (some.0, some.1 ∙ sym e, some.2))
    | inr ne ↦
        let before = is.only i (sym (bit_at_set_other w16 used n small i ne) ∙ h) in
        (omega (arith, before.0), before.1)
  ];
}
  where
    small : n < 16
    small = omega (arith, on)

-- word n marks none, and is not
pub noted_passed : (words : List ℕ) (n used : ℕ) → ((q : ℕ) → q / 64 ≡ n → is_marked words q ≡ false)
    → IsNoteBelow words n used → IsNoteBelow words (n + 1) used
noted_passed words n used none is = grind (arith, cases_eq, both_ways)
