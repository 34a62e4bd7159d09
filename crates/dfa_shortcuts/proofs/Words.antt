-- Words, split at their last letter, and their numbers.
use Rattle.std.proofs.Common.{◌≡◌, ◌⊎◌, ℕ, zero, suc, ◌+◌, ◌*◌, [], ◌∷◌, ◌++◌, length, refl, sym, ap, ◌∙◌, arith}
use Rattle.std.proofs.Common.{inl, inr}
use Rattle.dfa_core.specs.declared.automaton.Seen.{Seen}
use Rattle.dfa_core.specs.Words.{Word, letter_number}
use Rattle.dfa_shortcuts.specs.Openings.{number_from}

-- a word with a letter is a word and its last letter
pub split_last : (w : Word) (n : ℕ) → length w ≡ suc n
    → (v : Word) × (x : Seen) × (length v ≡ n) × (w ≡ v ++ x ∷ [])
split_last [] n long = absurd (omega (arith, long))
split_last (x ∷ []) zero long = ([], x, refl, refl)
split_last (x ∷ []) (suc n) long = absurd (omega (arith, long))
split_last (x ∷ y ∷ w) zero long = absurd (omega (arith, long))
split_last (x ∷ y ∷ w) (suc n) long =
    let rest = split_last (y ∷ w) n (omega (arith, long)) in
    (x ∷ rest.0, rest.1, ap suc rest.2, ap (λ u. x ∷ u) rest.3)

-- what a word with one letter more begins with is this word, or the word without the letter begins with it
pub split_prefix : (w : Word) (x : Seen) (v u : Word) → w ++ x ∷ [] ≡ v ++ u
    → (v ≡ w ++ x ∷ []) ⊎ ((t : Word) × (w ≡ v ++ t))
split_prefix w x [] u same = inr (w, refl)
split_prefix [] x (y ∷ []) u same = let first : x ≡ y = cc in inl (ap (λ z. z ∷ []) (sym first))
split_prefix [] x (y ∷ z ∷ v) u same = absurd (omega (arith, ap length same))
split_prefix (z ∷ w) x (y ∷ v) u same =
    let first : z ≡ y = cc in
    let rest : w ++ x ∷ [] ≡ v ++ u = cc in
    elim (split_prefix w x v u rest) [
      | inl all ↦ inl (ap (λ t. y ∷ t) all ∙ ap (λ l. l ∷ w ++ x ∷ []) (sym first))
      | inr some ↦ inr (some.0, ap (λ l. l ∷ w) first ∙ ap (λ t. y ∷ t) some.1)
    ]

-- the last letter of a word is the last digit of its number
pub number_from-push : (n : ℕ) (w : Word) (x : Seen)
    → number_from n (w ++ x ∷ []) ≡ 4 * number_from n w + letter_number x
number_from-push n [] x = refl
number_from-push n (y ∷ w) x = number_from-push (4 * n + letter_number y) w x
