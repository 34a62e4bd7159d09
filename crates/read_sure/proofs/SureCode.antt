-- The sure answer, by what the reading found under each code.
use Rattle.std.proofs.Common.{◌≡◌, ◌≢◌, ◌∙◌, ℕ, ◌-◌, ◌<◌, ◌≤◌, Bool, true, false, Option, None, Some, is_some, ap, sym}
use Rattle.std.proofs.Common.{arith, refl, inl, inr}
use Rattle.std.proofs.lemmas.Bool.{cases_Bool, cases_eq, cases_lt, both_ways}
use Rattle.go_rules.specs.Position.{BoardState}
use Rattle.read_rules.specs.declared.question.Spot.{Spot}
use Rattle.read_rules.specs.declared.question.ReadingQuestion.{ReadingQuestion}
use Rattle.read_rules.specs.Answer.{is_about, first_node}
use Rattle.read_rules.proofs.AnswerLemmas.{about_stands}
use Rattle.sure_rules.specs.SureAnswer.{sure_move, first_sure_move, surely_attains, sure_code_of, sure_answer_of}
use Rattle.sure_rules.specs.SureAnswer.{sure_move_of}
use Rattle.sure_rules.proofs.SureCodes.{surely_attained_by, sure_code_greatest}
use Rattle.sure_rules.proofs.SureCodes.{sure_move_of-code, not_barred, two_gives_one, three_gives_two}

-- what gives no other thing is not there if the other is not
not_above : {a b : Bool} → (a ≡ true → b ≡ true) → b ≡ false → a ≡ false
not_above {a} {b} gives none = grind (arith, cases_Bool, both_ways)

-- above 0 are 1, 2 and 3
above_0 : (test : ℕ → Bool) (more : ℕ) → 0 < more → more ≤ 3 → test 1 ≡ false → test 2 ≡ false → test 3 ≡ false
    → test more ≡ false
above_0 test more lo hi one two three = grind (arith, cases_eq)

-- What was found for a question that is about the position, under a code.
module _ (q : ReadingQuestion) (pos : BoardState) (some : q.plies ≢ 0) (about : is_about q pos ≡ true) where
  -- the code is attained exactly if a move was found
  attained : (code : ℕ) (found : Option Spot) → found ≡ sure_move (q.plies - 1) (first_node q code) pos
      → is_some found ≡ surely_attains q pos code
  attained code found is = ap is_some is ∙ surely_attained_by q pos code some (about_stands q pos about)

  -- a code that is attained, if no greater one is, is the sure code
  is_code : (code : ℕ) → code ≤ 3 → (code ≢ 0 → surely_attains q pos code ≡ true)
      → ((more : ℕ) → code < more → more ≤ 3 → surely_attains q pos more ≡ false) → sure_code_of q pos ≡ code
  is_code code bounded hit miss =
      let w = sure_code_greatest q pos about in
      elim (cases_lt code (sure_code_of q pos)) [
        | inl less ↦ absurd (both_ways (surely_attains q pos (sure_code_of q pos))
            (miss (sure_code_of q pos) less w.bounded) (w.attained (omega (arith, less))))
        | inr le ↦ elim (cases_lt (sure_code_of q pos) code) [
          | inl less ↦ absurd (both_ways (surely_attains q pos code) (w.greatest code less bounded)
              (hit (omega (arith, less))))
          | inr ge ↦ omega (arith, le, ge)
        ]
      ]

  -- the answer of a code
  answer_with : (code : ℕ) (at : Option Spot) → sure_code_of q pos ≡ code → at ≡ sure_move_of q pos code
      → record { code = code; at = at } ≡ sure_answer_of q pos
  unfolding sure_answer_of
  answer_with code at e f =
      ap (λ (m : Option Spot). record { code = code; at = m }) f
      ∙ ap (λ (k : ℕ). record { code = k; at = sure_move_of q pos k }) (sym e)

  -- no move was found under code 1
  pub answer_none : sure_move (q.plies - 1) (first_node q 1) pos ≡ None
      → record { code = 0; at = None } ≡ sure_answer_of q pos
  answer_none none =
      let no_one : surely_attains q pos 1 ≡ false = sym (attained 1 None (sym none)) in
      let no_two : surely_attains q pos 2 ≡ false = not_above (two_gives_one q pos) no_one in
      let no_three : surely_attains q pos 3 ≡ false = not_above (three_gives_two q pos) no_two in
      answer_with 0 None (is_code 0 (omega arith) (λ ne. absurd (ne refl))
      (λ more lo hi. above_0 (surely_attains q pos) more lo hi no_one no_two no_three)) refl

  -- a move was found under the code, and none under the greater ones
  pub answer_some : (code : ℕ) (spot : Spot) → code ≢ 0 → code ≤ 3
      → sure_move (q.plies - 1) (first_node q code) pos ≡ Some spot
      → ((more : ℕ) → code < more → more ≤ 3 → sure_move (q.plies - 1) (first_node q more) pos ≡ None)
      → record { code = code; at = Some spot } ≡ sure_answer_of q pos
  answer_some code spot ne bounded found none =
      let hit = sym (attained code (Some spot) (sym found)) in
      answer_with code (Some spot)
      (is_code code bounded (λ _. hit) (λ more lo hi. sym (attained more None (sym (none more lo hi)))))
      (sym found ∙ not_barred _ (first_sure_move (q.plies - 1) (first_node q code) pos) (ap is_some found)
      ∙ sym (sure_move_of-code q pos code ne))
