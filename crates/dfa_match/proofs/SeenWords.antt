-- What is seen along the spiral, letter by letter.
use Rattle.std.proofs.Common.{◌≡◌, ℕ, zero, suc, ◌+◌, ◌<◌, ◌≤◌, [], ◌∷◌, ◌++◌, length, refl, sym, ap, ◌∙◌, arith}
use Rattle.dfa_core.specs.declared.automaton.Seen.{Seen}
use Rattle.dfa_match.specs.SeenLetters.{word_from}

module _ (seen : ℕ → Seen) where
  -- a word begins with what is seen at its first index
  pub word_from-suc : (i n : ℕ) → word_from seen i (suc n) ≡ seen i ∷ word_from seen (suc i) n
  unfolding word_from
  word_from-suc i n = refl

  -- of no letters the word is empty
  pub word_from-zero : (i : ℕ) → word_from seen i 0 ≡ []
  unfolding word_from
  word_from-zero i = refl

  -- as many letters are seen as are asked for
  pub word_length : (i n : ℕ) → length (word_from seen i n) ≡ n
  word_length i zero = ap length (word_from-zero i)
  word_length i (suc n) = ap length (word_from-suc i n) ∙ ap suc (word_length (suc i) n)

  -- the letters that are seen first, and those after them
  pub word_split : (i n k : ℕ) → word_from seen i (n + k) ≡ word_from seen i n ++ word_from seen (i + n) k
  word_split i zero k = grind (arith, word_from-zero)
  word_split i (suc n) k = grind (arith, word_from-suc i (n + k), word_split (suc i) n k, word_from-suc i n)

-- where the same is seen at each index, the words are the same
pub word_from-same : (f g : ℕ → Seen) (i n : ℕ) → ((k : ℕ) → i ≤ k → k < i + n → f k ≡ g k)
    → word_from f i n ≡ word_from g i n
word_from-same f g i zero same = word_from-zero f i ∙ sym (word_from-zero g i)
word_from-same f g i (suc n) same = grind (arith, word_from-suc, word_from-same f g (suc i) n)
