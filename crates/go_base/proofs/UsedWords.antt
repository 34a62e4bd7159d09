-- The least point that words mark, by a note of the words in use.
use Rattle.std.proofs.Common.{◌≡◌, ◌≢◌, ℕ, ◌+◌, ◌*◌, ◌/◌, ◌%◌, ◌<◌, ◌≤◌, true, false, List, get_or, refl, sym, ap}
use Rattle.std.proofs.Common.{arith, inl, inr, ◌∙◌, bit_and, bit_or, ◌^◌}
use Rattle.std.proofs.lemmas.Bool.{cases_eq, cases_lt, both_ways, eqb-true}
use Rattle.std.proofs.lemmas.Nat.{div-mul-add, mod-mul-add}
use Rattle.std.proofs.lemmas.Nat.Bits.{bit_at-zero, bit_at_and, bit_at_set_same, bit_at_set_other}
use Rattle.std.proofs.lemmas.Nat.Bits.{bit_at_clear_same, bit_at_clear_other}
use Rattle.std.specs.Int.{bit_at, bit_not, w16}
use Rattle.go_rules.specs.Board.{largest_points}
use Rattle.go_base.specs.Bits.{is_marked, IsNoteOf}

-- a bit that is set in a word marks its point
pub is_marked-at : (words : List ℕ) (word bit : ℕ) → bit < 64 → bit_at (get_or words word 0) bit ≡ 1
    → is_marked words (word * 64 + bit) ≡ true
is_marked-at words word bit small hit = rw (div-mul-add word 64 bit small, mod-mul-add word 64 bit small, hit) refl

-- a point of another word is another point
other_point : (q p i : ℕ) → q / 64 ≡ i → i ≢ p / 64 → q ≢ p
other_point q p i word ne e = ne (sym word ∙ ap (λ n. n / 64) e)

-- words that mark no point are noted by no bit
pub IsNoteOf-none : (words : List ℕ) → ((q : ℕ) → is_marked words q ≡ false) → IsNoteOf words 0
IsNoteOf-none words none = grind (arith, both_ways, bit_at-zero)

-- the note with the bit of one more word
abbrev pub with_word : ℕ → ℕ → ℕ
with_word used i = bit_or used (1 * 2 ^ i % 65536)

-- if one more point is marked, the bit of its word is noted
pub IsNoteOf-add : (old new : List ℕ) (used p : ℕ) → IsNoteOf old used → p < largest_points → is_marked new p ≡ true
    → ((q : ℕ) → q ≢ p → is_marked new q ≡ is_marked old q) → IsNoteOf new (with_word used (p / 64))
IsNoteOf-add old new used p is on here elsewhere = record {
  on_board = grind (arith, cases_eq);
  noted =
      grind (arith, bit_at_set_same w16 used (p / 64) small, bit_at_set_other w16 used (p / 64) small, cases_eq, small);
  only = λ i h. elim (cases_eq i (p / 64)) [
    | inl e ↦ (p, sym e, here)
    | inr ne ↦
        let before = is.only i (sym (bit_at_set_other w16 used (p / 64) small i ne) ∙ h) in
        (before.0, before.1, elsewhere before.0 (other_point before.0 p i before.1 ne) ∙ before.2)
  ];
}
  where
    small : p / 64 < 16
    small = omega (arith, on)

-- where one point less is marked and its word has another, the note stays as it is
pub IsNoteOf-less : (old new : List ℕ) (used p : ℕ) → IsNoteOf old used → is_marked new p ≡ false
    → ((q : ℕ) → q ≢ p → is_marked new q ≡ is_marked old q)
    → (q : ℕ) × (q / 64 ≡ p / 64) × (is_marked new q ≡ true) → IsNoteOf new used
IsNoteOf-less old new used p is here elsewhere left = record {
  on_board = λ q h. is.on_board q (was q h);
  noted = λ q h. is.noted q (was q h);
  only = λ i h. elim (cases_eq i (p / 64)) [
    | inl e ↦ (left.0, left.1 ∙ sym e, left.2)
    | inr ne ↦ grind (arith, other_point)
  ];
}
  where
    was : (q : ℕ) → is_marked new q ≡ true → is_marked old q ≡ true
    was q h = grind (arith, cases_eq q p, both_ways (is_marked new q))

-- the note without the bit of one word
abbrev pub without_word : ℕ → ℕ → ℕ
without_word used i = bit_and used (bit_not w16 (1 * 2 ^ i % 65536))

-- where one point less is marked and its word has no other, the bit of its word goes
pub IsNoteOf-last : (old new : List ℕ) (used p : ℕ) → IsNoteOf old used → p < largest_points → is_marked new p ≡ false
    → ((q : ℕ) → q ≢ p → is_marked new q ≡ is_marked old q)
    → ((q : ℕ) → q / 64 ≡ p / 64 → is_marked new q ≡ false) → IsNoteOf new (without_word used (p / 64))
IsNoteOf-last old new used p is on here elsewhere none =
    grind (arith, bit_at_clear_other w16, bit_at_clear_same w16, bit_at_and)

module _ (words : List ℕ) (used first next : ℕ) (is : IsNoteOf words used)
    (rest : (k : ℕ) → first % 64 ≤ k → k < 64 → bit_at (get_or words (first / 64) 0) k ≡ 0)
    (unused : (k : ℕ) → first / 64 + 1 ≤ k → k < next → bit_at used k ≡ 0) where
  module _ (bit : ℕ) (noted : bit_at used next ≡ 1) (bound : bit ≤ 64) (beyond : first / 64 + 1 ≤ next)
      (misses : (k : ℕ) → 0 ≤ k → k < bit → bit_at (get_or words next 0) k ≡ 0) where
    -- the lowest bit of the next word in use is that of the first point that is marked
    pub first_in_next : (bit < 64 → bit_at (get_or words next 0) bit ≡ 1)
        → (first ≤ next * 64 + bit) × (next * 64 + bit < largest_points) × (is_marked words (next * 64 + bit) ≡ true)
        × ((r : ℕ) → first ≤ r → r < next * 64 + bit → is_marked words r ≡ false)
    first_in_next hit = grind (arith, is_marked-at, cases_lt, eqb-true)
