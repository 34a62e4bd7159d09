-- What a proof is by its first word.
use Rattle.std.proofs.Common.{◌≡◌, ◌≢◌, ◌∙◌, ℕ, zero, suc, ◌-◌, Bool, cond, List, [], ◌∷◌, Option, Some, None}
use Rattle.std.proofs.Common.{refl, sym, ap, arith, eqb, inl, inr}
use Rattle.std.proofs.lemmas.Bool.{cases_eq, eq-eqb, ne_eqb}
use Rattle.std.specs.Option.{option_and_then}
use Rattle.std.specs.Str.{bytes_eq}
use Rattle.go_rules.specs.Position.{BoardState}
use Rattle.read_rules.specs.declared.node.Node.{Node}
use Rattle.read_rules.specs.declared.question.Spot.{Spot}
use Rattle.read_rules.specs.declared.question.ReadingQuestion.{ReadingQuestion}
use Rattle.read_rules.specs.Answer.{first_node}
use Rattle.read_proof.specs.declared.token.Token.{Token}
use Rattle.read_proof.specs.declared.token.Token.TheVariants.{Settled, Move, Each}
use Rattle.read_proof.specs.Tokens.{Word, token_of}
use Rattle.read_proof.specs.Proves.{is_settled, move_may_prove, each_may_prove, child_behind, pass_children}
use Rattle.read_proof.specs.Proves.{play_children, children_of, at_child, at_each, by_token, proves}
use Rattle.read_proof.specs.ProofOf.{codes_down_to, claim_under, letter_of, proves_under, proves_all}

-- what a word says, on the board of the position
pub said_here : (said token : Token) (s size : ℕ) (word : Word) → said ≡ token → Some said ≡ token_of s word → s ≡ size
    → Some token ≡ token_of size word
said_here said token s size word is e here = ap Some (sym is) ∙ e ∙ ap (λ n. token_of n word) here

module _ (won : Bool) (node : Node) (pos : BoardState) where
  -- where there is no word there is no proof
  pub no_words : (n : ℕ) (words : List Word) → words ≡ [] → proves n won node pos words ≡ None
  unfolding proves
  no_words zero words e = ap (proves zero won node pos) e
  no_words (suc n) words e = ap (proves (suc n) won node pos) e

  -- what a move proves with n plies left
  abbrev pub by_move : ℕ → Spot → List Word → Option (List Word)
  by_move zero spot left = None
  by_move (suc n) spot left =
      cond (move_may_prove won node pos) (at_child (proves n won) (child_behind node pos spot) left) None

  -- what `*` proves with n plies left
  abbrev pub by_each : ℕ → List Word → Option (List Word)
  by_each zero left = None
  by_each (suc n) left = cond (each_may_prove won node pos) (at_each (proves n won) (children_of node pos) left) None

  -- a proof by what its first word says
  by_first : (n : ℕ) (word : Word) (rest : List Word) → proves n won node pos (word ∷ rest)
      ≡ by_token (is_settled n won node pos) (by_move n) (by_each n) (token_of pos.size word) rest
  unfolding proves
  by_first zero word rest = refl
  by_first (suc n) word rest = refl

  module _ (words : List Word) (word : Word) (rest : List Word) (first : words ≡ word ∷ rest) where
    -- a proof by what is known that its first word says
    pub by_word : (n : ℕ) (said : Option Token) → said ≡ token_of pos.size word
        → proves n won node pos words ≡ by_token (is_settled n won node pos) (by_move n) (by_each n) said rest
    by_word n said e =
        ap (proves n won node pos) first ∙ by_first n word rest
        ∙ ap (λ t. by_token (is_settled n won node pos) (by_move n) (by_each n) t rest) (sym e)

    -- a word that says nothing proves nothing
    pub unknown_word : (n : ℕ) → None ≡ token_of pos.size word → proves n won node pos words ≡ None
    unknown_word n e = by_word n None e

    -- `.` proves what is settled
    pub settled_word : (n : ℕ) (settled : Bool) → Some Settled ≡ token_of pos.size word
        → is_settled n won node pos ≡ settled
        → proves n won node pos words ≡ cond settled (Some rest) None
    settled_word n settled e is = by_word n (Some Settled) e ∙ ap (λ b. cond b (Some rest) None) is

    -- where no ply is left a move proves nothing
    pub move_at_end : (n : ℕ) (spot : Spot) → Some (Move spot) ≡ token_of pos.size word → n ≡ 0
        → proves n won node pos words ≡ None
    move_at_end zero spot e none = by_word zero (Some (Move spot)) e
    move_at_end (suc n) spot e none = absurd (let w = none in cc)

    -- nor does `*`
    pub each_at_end : (n : ℕ) → Some Each ≡ token_of pos.size word → n ≡ 0 → proves n won node pos words ≡ None
    each_at_end zero e none = by_word zero (Some Each) e
    each_at_end (suc n) e none = absurd (let w = none in cc)

    -- a move that may prove the claim proves it where the rest does at its child
    pub move_decides : (n : ℕ) (spot : Spot) (may : Bool) → Some (Move spot) ≡ token_of pos.size word → n ≢ 0
        → move_may_prove won node pos ≡ may
        → proves n won node pos words
        ≡ cond may (at_child (proves (n - 1) won) (child_behind node pos spot) rest) None
    move_decides zero spot may e some is = absurd (some refl)
    move_decides (suc n) spot may e some is = grind (arith, by_word)

    -- `*` that may prove the claim proves it where the rest does at each child
    pub each_decides : (n : ℕ) (may : Bool) → Some Each ≡ token_of pos.size word → n ≢ 0
        → each_may_prove won node pos ≡ may
        → proves n won node pos words ≡ cond may
        (option_and_then (at_each (proves (n - 1) won) (play_children node pos))
        (at_each (proves (n - 1) won) (pass_children node pos) rest)) None
    unfolding children_of
    each_decides zero may e some is = absurd (some refl)
    each_decides (suc n) may e some is = grind (arith, by_word)

module _ (q : ReadingQuestion) (pos : BoardState) (won : Bool) (more : ℕ) (words : List Word) where
  -- where there is no word there is no letter of a claim
  pub under_none : words ≡ [] → proves_under q pos won more words ≡ None
  unfolding proves_under
  under_none e = ap (proves_under q pos won more) e

  -- behind the letter of the claim is its proof, and behind another word none
  pub under_letter : (word : Word) (rest : List Word) (letter : Bool) → words ≡ word ∷ rest
      → bytes_eq word (letter_of won) ≡ letter
      → proves_under q pos won more words ≡ cond letter (proves q.plies won (first_node q more) pos rest) None
  unfolding proves_under
  under_letter word rest letter first e =
      ap (proves_under q pos won more) first
      ∙ ap (λ b. cond b (proves q.plies won (first_node q more) pos rest) None) e

module _ (q : ReadingQuestion) (pos : BoardState) (code : ℕ) where
  -- the proofs under no code are no words
  all_none : (o : Option (List Word)) → option_and_then (proves_all q pos code []) o ≡ o
  unfolding proves_all
  all_none None = refl
  all_none (Some words) = refl

  -- what a proof of the code claims under another is proved
  abbrev pub under : ℕ → List Word → Option (List Word)
  under more words = proves_under q pos (claim_under q code more) more words

  -- a proof of code 3 has one part
  pub all_three : (words : List Word) → code ≡ 3 → proves_all q pos code (codes_down_to code) words ≡ under 3 words
  unfolding proves_all
  all_three words is = ap (λ codes. proves_all q pos code codes words)
      (ap (λ b. cond b (3 ∷ []) (cond (eqb code 2) (3 ∷ (2 ∷ [])) (3 ∷ (2 ∷ (1 ∷ []))))) (eq-eqb code 3 is))
      ∙ all_none (under 3 words)

  -- one of code 2 has two
  pub all_two : (words : List Word) → code ≡ 2
      → proves_all q pos code (codes_down_to code) words ≡ option_and_then (under 2) (under 3 words)
  unfolding proves_all
  all_two words is = ap (λ codes. proves_all q pos code codes words)
      (ap (λ b. cond b (3 ∷ []) (cond (eqb code 2) (3 ∷ (2 ∷ [])) (3 ∷ (2 ∷ (1 ∷ [])))))
      (ne_eqb code 3 (λ e. omega (arith, is, e)))
      ∙ ap (λ b. cond b (3 ∷ (2 ∷ [])) (3 ∷ (2 ∷ (1 ∷ [])))) (eq-eqb code 2 is))
      ∙ by (under 3 words)
    where
      by : (o : Option (List Word)) → option_and_then (proves_all q pos code (2 ∷ [])) o ≡ option_and_then (under 2) o
      by None = refl
      by (Some between) = all_none (under 2 between)

  -- another has three
  pub all_one : (words : List Word) → code ≢ 3 → code ≢ 2
      → proves_all q pos code (codes_down_to code) words
      ≡ option_and_then (under 1) (option_and_then (under 2) (under 3 words))
  unfolding proves_all
  all_one words not_3 not_2 = ap (λ codes. proves_all q pos code codes words)
      (ap (λ b. cond b (3 ∷ []) (cond (eqb code 2) (3 ∷ (2 ∷ [])) (3 ∷ (2 ∷ (1 ∷ []))))) (ne_eqb code 3 not_3)
      ∙ ap (λ b. cond b (3 ∷ (2 ∷ [])) (3 ∷ (2 ∷ (1 ∷ [])))) (ne_eqb code 2 not_2))
      ∙ by (under 3 words)
    where
      last : (o : Option (List Word)) → option_and_then (proves_all q pos code (1 ∷ [])) o ≡ option_and_then (under 1) o
      last None = refl
      last (Some between) = all_none (under 1 between)

      by : (o : Option (List Word)) → option_and_then (proves_all q pos code (2 ∷ (1 ∷ []))) o
          ≡ option_and_then (under 1) (option_and_then (under 2) o)
      by None = refl
      by (Some between) = last (under 2 between)

  -- where there is no proof under code 3 there is none of the code
  pub all_fails : (words : List Word) → under 3 words ≡ None
      → proves_all q pos code (codes_down_to code) words ≡ None
  all_fails words e = elim (cases_eq code 3) [
    | inl three ↦ all_three words three ∙ e
    | inr not_3 ↦ elim (cases_eq code 2) [
      | inl two ↦ all_two words two ∙ ap (option_and_then (under 2)) e
      | inr not_2 ↦ all_one words not_3 not_2 ∙ ap (λ o. option_and_then (under 1) (option_and_then (under 2) o)) e
    ]
  ]

  -- nor where there is none under code 2 behind that under code 3, if the code is another
  pub all_fails_second : (words between : List Word) → code ≢ 3 → under 3 words ≡ Some between → under 2 between ≡ None
      → proves_all q pos code (codes_down_to code) words ≡ None
  all_fails_second words between not_3 e second = elim (cases_eq code 2) [
    | inl two ↦ all_two words two ∙ ap (option_and_then (under 2)) e ∙ second
    | inr not_2 ↦ all_one words not_3 not_2
        ∙ ap (λ o. option_and_then (under 1) (option_and_then (under 2) o)) e ∙ ap (option_and_then (under 1)) second
  ]
