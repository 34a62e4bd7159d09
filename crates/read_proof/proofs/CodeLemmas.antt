-- A text that is a proof of a code is about the code of the question.
use Rattle.std.proofs.Common.{◌≡◌, ◌∙◌, ℕ, ◌*◌, ◌<◌, ◌≤◌, Bool, true, false, not, cond, eqb, List, [], ◌∷◌, Some, None}
use Rattle.std.proofs.Common.{Option, is_some, refl, ap, arith}
use Rattle.std.specs.Prelude.{MatchOption}
use Rattle.std.specs.List.{AllByRecursion}
use Rattle.std.specs.Str.{bytes_eq}
use Rattle.std.proofs.lemmas.Option.{option_and_then_some}
use Rattle.std.proofs.lemmas.Bool.{cases_eq, cases_lt, both_ways, eqb-true, eq-eqb, ne_eqb}
use Rattle.go_rules.specs.Position.{BoardState}
use Rattle.read_rules.specs.declared.question.ReadingQuestion.{ReadingQuestion}
use Rattle.read_rules.specs.GameTree.{attacker_wins}
use Rattle.read_rules.specs.Answer.{is_attack, first_node, attains_code, is_about, answer_of}
use Rattle.read_rules.proofs.RuleLemmas.{code_greatest, code-answer_of}
use Rattle.read_proof.specs.Tokens.{Word}
use Rattle.read_proof.specs.Proves.{proves}
use Rattle.read_proof.specs.ProofOf.{claim_under, letter_of, proves_under, proves_all, IsProofOf}
use Rattle.read_proof.proofs.SoundLemmas.{proved_sound}

-- The question on the position, and the code of which a text is a proof.
module _ (q : ReadingQuestion) (pos : BoardState) (code : ℕ) (on : q.target < pos.size * pos.size) where
  -- the code is the one code of these that the question attains
  abbrev pub IsTold : ℕ → Type 0
  IsTold more = attains_code q pos more ≡ eqb more code

  -- what is proved under the allowances of a code says whether the question attains it
  told_under : (more : ℕ) (words left : List Word)
      → proves_under q pos (claim_under q code more) more words ≡ Some left → IsTold more
  unfolding proves_under
  told_under more [] left e = absurd (let w = e in cc)
  told_under more (word ∷ rest) left e =
      by (bytes_eq word (letter_of (claim_under q code more))) e
    where
      told : (attack wins : Bool) → wins ≡ cond attack (eqb more code) (not (eqb more code))
          → cond attack wins (not wins) ≡ eqb more code
      told true wins so = so
      told false wins so = ap not so ∙ not_not (eqb more code)
        where
          not_not : (b : Bool) → not (not b) ≡ b
          not_not true = refl
          not_not false = refl

      by : (letter : Bool)
          → cond letter (proves q.plies (claim_under q code more) (first_node q more) pos rest) None ≡ Some left
          → attains_code q pos more ≡ eqb more code
      by false e = absurd (let w = e in cc)
      by true e = told (is_attack q.kind) (attacker_wins q.plies (first_node q more) pos)
          (proved_sound q.plies (claim_under q code more) (first_node q more) pos rest left on e)

  -- and so under each of these codes
  told_all : (codes : List ℕ) (words left : List Word) → proves_all q pos code codes words ≡ Some left
      → AllByRecursion IsTold codes
  unfolding proves_all
  told_all [] words left e = tt
  told_all (more ∷ others) words left e =
      option_and_then_some (proves_all q pos code others) (proves_under q pos (claim_under q code more) more words) left
      e
      (λ between first rest. (told_under more words between first, told_all others between left rest))

  -- a text that is a proof of the code is about the code of the question
  pub code_sound : (text : List ℕ) → is_about q pos ≡ true → code ≤ 3 → IsProofOf q pos code text
      → (answer_of q pos).code ≡ code
  code_sound text about most proof =
      grind (arith, code-answer_of, code_greatest, cases_eq, cases_lt, both_ways, eq-eqb, ne_eqb, eqb-true, told_all)

-- where nothing is there, what is said of nothing holds
pub none_gives : {X : Type 0} (o : Option X) (P : Type 0) (Q : X → Type 0) (none : Bool) → MatchOption o P Q
    → is_some o ≡ not none → none ≡ true → P
none_gives None P Q none said is empty = said
none_gives (Some x) P Q none said is empty = absurd (let w = is ∙ ap not empty in cc)
