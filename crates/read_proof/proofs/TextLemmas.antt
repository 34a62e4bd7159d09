-- The first text of a question is a proof of its code.
use Rattle.std.proofs.Common.{◌≡◌, ◌∙◌, ℕ, ◌*◌, ◌<◌, ◌≤◌, Bool, true, false, not, cond, eqb, List, [], ◌∷◌, ◌++◌}
use Rattle.std.proofs.Common.{Some, None, refl, sym, ap, subst, inl, inr, arith, append_assoc}
use Rattle.std.specs.List.{AllByRecursion, join_with_byte}
use Rattle.std.specs.Option.{option_and_then}
use Rattle.std.specs.Str.{bytes_eq}
use Rattle.std.proofs.lemmas.Bool.{cases_eq, eqb-true, eqb-false, eq-eqb, ne_eqb}
use Rattle.std.proofs.lemmas.List.{append-nil}
use Rattle.go_rules.specs.Board.{IsSize}
use Rattle.go_rules.specs.Position.{BoardState}
use Rattle.vertices.specs.Words.{blank}
use Rattle.read_rules.specs.declared.question.ReadingQuestion.{ReadingQuestion}
use Rattle.read_rules.specs.GameTree.{attacker_wins}
use Rattle.read_rules.specs.Answer.{is_attack, first_node, attains_code, is_about, code_of, answer_of}
use Rattle.read_rules.proofs.RuleLemmas.{code_greatest, code-answer_of}
use Rattle.read_proof.specs.Tokens.{Word}
use Rattle.read_proof.specs.Proves.{proves}
use Rattle.read_proof.specs.ProofOf.{codes_down_to, claim_under, letter_of, proves_under, proves_all, IsProofOf}
use Rattle.read_proof.specs.FirstProof.{first_words, first_words_of, first_text}
use Rattle.read_proof.proofs.PrintLemmas.{is_word, words_read}
use Rattle.read_proof.proofs.FirstLemmas.{first_complete, first_are_words, both_lists}

-- The question is about the position, on which its target is.
module _ (q : ReadingQuestion) (pos : BoardState) (size : IsSize pos.size) (on : q.target < pos.size * pos.size) where
  -- what a proof of the code claims under the allowances of this one is so
  abbrev pub IsClaimed : ℕ → ℕ → Type 0
  IsClaimed code more = attacker_wins q.plies (first_node q more) pos ≡ claim_under q code more

  -- a letter is its own
  own_letter : (won : Bool) → bytes_eq (letter_of won) (letter_of won) ≡ true
  own_letter true = refl
  own_letter false = refl

  -- the first proofs of claims that are so prove them
  all_proved : (code : ℕ) (codes : List ℕ) (rest : List Word) → AllByRecursion (IsClaimed code) codes
      → proves_all q pos code codes (first_words_of q pos code codes ++ rest) ≡ Some rest
  unfolding proves_all first_words_of proves_under
  all_proved code [] rest so = refl
  all_proved code (more ∷ others) rest so =
      let won = claim_under q code more in
      let words = first_words q.plies won (first_node q more) pos in
      ap (option_and_then (proves_all q pos code others))
      (ap (λ b. cond b (proves q.plies won (first_node q more) pos
      ((words ++ first_words_of q pos code others) ++ rest)) None) (own_letter won)
      ∙ ap (proves q.plies won (first_node q more) pos) (append_assoc words (first_words_of q pos code others) rest)
      ∙ first_complete pos.size size q.plies won (first_node q more) pos (first_words_of q pos code others ++ rest)
      (refl, on) so.0)
      ∙ all_proved code others rest so.1

  -- their words are words
  all_words : (code : ℕ) (codes : List ℕ) → AllByRecursion (λ w. is_word w ≡ true) (first_words_of q pos code codes)
  unfolding first_words_of
  all_words code [] = tt
  all_words code (more ∷ others) = (
    letter (claim_under q code more),
    both_lists (first_words q.plies (claim_under q code more) (first_node q more) pos)
        (first_words_of q pos code others)
        (first_are_words pos.size size q.plies (claim_under q code more) (first_node q more) pos (refl, on))
        (all_words code others),
  )
    where
      letter : (won : Bool) → is_word (letter_of won) ≡ true
      letter true = refl
      letter false = refl

  -- where the question attains a code exactly if it is this one, what a proof of this one claims under it is so
  claimed : (code more : ℕ) → attains_code q pos more ≡ eqb more code → IsClaimed code more
  claimed code more told = by (is_attack q.kind) (attacker_wins q.plies (first_node q more) pos) told
    where
      not_not : (b : Bool) → b ≡ not (not b)
      not_not true = refl
      not_not false = refl

      by : (attack wins : Bool) → cond attack wins (not wins) ≡ eqb more code
          → wins ≡ cond attack (eqb more code) (not (eqb more code))
      by true wins e = e
      by false wins e = not_not wins ∙ ap not e

  -- of the codes from the question's own to 3 it attains that one alone
  attains_one : is_about q pos ≡ true → (more : ℕ) → code_of q pos ≤ more → 0 < more → more ≤ 3
      → attains_code q pos more ≡ eqb more (code_of q pos)
  attains_one about more least some most =
      let best = code_greatest q pos about in
      elim (cases_eq more (code_of q pos)) [
        | inl same ↦ ap (attains_code q pos) same ∙ best.attained (λ none. omega (arith, same, none, some))
            ∙ sym (eq-eqb more (code_of q pos) same)
        | inr ne ↦ best.greatest more (omega (arith, ne, least)) most ∙ sym (ne_eqb more (code_of q pos) ne)
      ]

  -- what a proof of the question's code claims is so
  all_claimed : is_about q pos ≡ true → AllByRecursion (IsClaimed (code_of q pos)) (codes_down_to (code_of q pos))
  all_claimed about =
      by (eqb (code_of q pos) 3) (eqb (code_of q pos) 2) refl refl (code_greatest q pos about).bounded
    where
      at : (more : ℕ) → code_of q pos ≤ more → 0 < more → more ≤ 3 → IsClaimed (code_of q pos) more
      at more least some most = claimed (code_of q pos) more (attains_one about more least some most)

      by : (three two : Bool) → eqb (code_of q pos) 3 ≡ three → eqb (code_of q pos) 2 ≡ two → code_of q pos ≤ 3
          → AllByRecursion (IsClaimed (code_of q pos))
          (cond three (3 ∷ []) (cond two (3 ∷ (2 ∷ [])) (3 ∷ (2 ∷ (1 ∷ [])))))
      by true two e3 e2 most = (at 3 most (omega arith) (omega arith), tt)
      by false true e3 e2 most =
          let is = eqb-true (code_of q pos) 2 e2 in
          (at 3 most (omega arith) (omega arith), (at 2 (omega (arith, is)) (omega arith) (omega arith), tt))
      by false false e3 e2 most =
          let not_3 = eqb-false (code_of q pos) 3 e3 in
          let not_2 = eqb-false (code_of q pos) 2 e2 in (
            at 3 most (omega arith) (omega arith),
            (
              at 2 (omega (arith, most, not_3)) (omega arith) (omega arith),
              (at 1 (omega (arith, most, not_3, not_2)) (omega arith) (omega arith), tt),
            ),
          )

  -- the first text is a proof of the question's code
  pub first_text_proves : is_about q pos ≡ true → IsProofOf q pos (answer_of q pos).code (first_text q pos)
  unfolding first_text
  first_text_proves about =
      let code = code_of q pos in
      let codes = codes_down_to code in
      let words = first_words_of q pos code codes in
      subst (λ k. IsProofOf q pos k (join_with_byte blank words)) (sym (code-answer_of q pos))
      (ap (proves_all q pos code codes) (words_read words (all_words code codes))
      ∙ sym (ap (proves_all q pos code codes) (append-nil words)) ∙ all_proved code codes [] (all_claimed about))
