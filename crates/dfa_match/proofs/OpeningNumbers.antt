-- The numbers of words, as they grow letter by letter.
use Rattle.std.proofs.Common.{◌≡◌, ℕ, ◌+◌, ◌*◌, ◌^◌, ◌<◌, [], ◌∷◌, ◌++◌, refl, arith}
use Rattle.std.proofs.Math.Nat.{pow-suc, pow-le-pow_right}
use denote.Enum.Declared.{tag_of}
use Rattle.dfa_core.specs.contracts.automaton.Seen.{the_type}
use Rattle.dfa_core.specs.declared.automaton.Seen.{Seen}
use Rattle.dfa_core.specs.declared.automaton.Seen.TheVariants.{Friend, Enemy, Empty, Off}
use Rattle.dfa_core.specs.Words.{Word, letter_number}
use Rattle.dfa_core.proofs.Entries.{letter_below}
use Rattle.dfa_shortcuts.specs.Openings.{number_from, word_number}
use Rattle.dfa_match.specs.Rings.{ring_letters}
use Rattle.dfa_match.specs.SeenLetters.{word_from}
use Rattle.dfa_match.proofs.SeenWords.{word_from-suc, word_from-zero, word_split}

-- a letter more is a digit more
number_push : (n : ℕ) (w : Word) (x : Seen) → number_from n (w ++ x ∷ []) ≡ 4 * number_from n w + letter_number x
number_push n [] x = refl
number_push n (y ∷ w) x = number_push (4 * n + letter_number y) w x

module _ (seen : ℕ → Seen) (i : ℕ) where
  -- its number has a digit more
  pub number_more : (n number : ℕ) → number ≡ word_number (word_from seen i n)
      → 4 * number + letter_number (seen (i + n)) ≡ word_number (word_from seen i (n + 1))
  number_more n number is = grind (arith, number_push, word_split, word_from-suc, word_from-zero)

-- a letter's tag is its number
pub letter_tag : (x : Seen) → tag_of the_type x ≡ letter_number x
letter_tag Friend = refl
letter_tag Enemy = refl
letter_tag Empty = refl
letter_tag Off = refl

-- a number with a digit more is below the next power
pub number_low : (n number : ℕ) (x : Seen) → number < 4 ^ n → 4 * number + letter_number x < 4 ^ (n + 1)
number_low n number x low = grind (arith, pow-suc 4 n, letter_below x)

-- the number of a ring has room for its last letter
pub number_room : (n number : ℕ) → n < ring_letters → number < 4 ^ n → number < 4 ^ 7
number_room n number few low = grind (arith, pow-le-pow_right)
