-- The codes of sure answers: by their allowances, one within the other, and the first move of the greatest.
use Rattle.std.proofs.Common.{◌≡◌, ◌≢◌, ◌∙◌, ℕ, ◌-◌, ◌<◌, ◌≤◌, Bool, true, false, not, cond, Option, None, Some}
use Rattle.std.proofs.Common.{is_some, ap, sym, refl, arith, inl, inr}
use Rattle.std.proofs.lemmas.Bool.{cases_Bool, cases_eq, cases_lt, ne_eqb, both_ways, not-true}
use Rattle.go_rules.specs.Position.{BoardState}
use Rattle.read_rules.specs.declared.question.Kind.{Kind}
use Rattle.read_rules.specs.declared.question.Kind.TheVariants.{Attack, Defend}
use Rattle.read_rules.specs.declared.question.Spot.{Spot}
use Rattle.read_rules.specs.declared.question.ReadingQuestion.{ReadingQuestion}
use Rattle.read_rules.specs.GameTree.{is_captured}
use Rattle.read_rules.specs.Answer.{first_node, is_about, code_of}
use Rattle.read_rules.specs.Rules.{node_under}
use Rattle.read_rules.proofs.AnswerLemmas.{about_stands}
use Rattle.read_rules.proofs.AreaWords.{asked_as}
use Rattle.read_rules.proofs.RuleLemmas.{code_greatest, code_another, above_two, above_one}
use Rattle.sure_rules.specs.SureTree.{surely_wins}
use Rattle.sure_rules.specs.SureAnswer.{first_sure_move, sure_move, surely_attains, sure_code_of, first_sure_move_of}
use Rattle.sure_rules.specs.SureAnswer.{sure_move_of, sure_answer_of}
use Rattle.sure_rules.specs.SureInWords.{IsFirstSureMove, IsGreatestSureCode}
use Rattle.sure_rules.proofs.SureLemmas.{sure_is_won}
use Rattle.sure_rules.proofs.SureMoves.{sure-attacker_move, sure-defender_move, first_sure_move_gives}
use Rattle.sure_rules.proofs.StayLemmas.{stays_sure}

-- the target is surely captured under a ko allowance of the attacker and one of the defender
abbrev sure_under : ReadingQuestion → BoardState → ℕ → ℕ → Bool
sure_under q pos a d = surely_wins q.plies (node_under q a d) pos

-- what an attack attains under each code
attack_codes : (q : ReadingQuestion) (pos : BoardState) (kind : Kind) → kind ≡ Attack
    → (surely_attains (asked_as q kind) pos 3 ≡ sure_under (asked_as q kind) pos 0 1)
    × (surely_attains (asked_as q kind) pos 2 ≡ sure_under (asked_as q kind) pos 0 0)
    × (surely_attains (asked_as q kind) pos 1 ≡ sure_under (asked_as q kind) pos 1 0)
attack_codes q pos Attack e = (refl, refl, refl)
attack_codes q pos Defend e = absurd (let wrong = e in cc)

-- what a defence attains under each code
defend_codes : (q : ReadingQuestion) (pos : BoardState) (kind : Kind) → kind ≡ Defend
    → (surely_attains (asked_as q kind) pos 3 ≡ not (sure_under (asked_as q kind) pos 1 0))
    × (surely_attains (asked_as q kind) pos 2 ≡ not (sure_under (asked_as q kind) pos 0 0))
    × (surely_attains (asked_as q kind) pos 1 ≡ not (sure_under (asked_as q kind) pos 0 1))
defend_codes q pos Attack e = absurd (let wrong = e in cc)
defend_codes q pos Defend e = (refl, refl, refl)

-- the same of the question itself
pub attack_attains : (q : ReadingQuestion) (pos : BoardState) → q.kind ≡ Attack
    → (surely_attains q pos 3 ≡ sure_under q pos 0 1) × (surely_attains q pos 2 ≡ sure_under q pos 0 0)
    × (surely_attains q pos 1 ≡ sure_under q pos 1 0)
attack_attains q pos kind = attack_codes q pos q.kind kind

-- the same of the question itself
pub defend_attains : (q : ReadingQuestion) (pos : BoardState) → q.kind ≡ Defend
    → (surely_attains q pos 3 ≡ not (sure_under q pos 1 0)) × (surely_attains q pos 2 ≡ not (sure_under q pos 0 0))
    × (surely_attains q pos 1 ≡ not (sure_under q pos 0 1))
defend_attains q pos kind = defend_codes q pos q.kind kind

-- what is not so before is not so after
not_before : (a b : Bool) → (a ≡ true → b ≡ true) → not b ≡ true → not a ≡ true
not_before true b h n = absurd (both_ways b (not-true b n) (h refl))
not_before false b h n = refl

-- a question that attains code 3 attains code 2
pub three_gives_two : (q : ReadingQuestion) (pos : BoardState) → surely_attains q pos 3 ≡ true
    → surely_attains q pos 2 ≡ true
three_gives_two q pos h = grind (arith, attack_attains, stays_sure, defend_attains, not_before)

-- a question that attains code 2 attains code 1
pub two_gives_one : (q : ReadingQuestion) (pos : BoardState) → surely_attains q pos 2 ≡ true
    → surely_attains q pos 1 ≡ true
two_gives_one q pos h = grind (arith, attack_attains, stays_sure, defend_attains, not_before)

-- a code is the greatest from 1 to 3 that passes a test
record IsGreatest (test : ℕ → Bool) (code : ℕ) : Type 0 where
  bounded : code ≤ 3
  attained : code ≢ 0 → test code ≡ true
  greatest : (more : ℕ) → code < more → more ≤ 3 → test more ≡ false

-- the code that is chosen from three to one is the greatest that passes
greatest_by : (about three two one : Bool) (test : ℕ → Bool) → about ≡ true → test 3 ≡ three → test 2 ≡ two
    → test 1 ≡ one
    → IsGreatest test (cond (not about) 0 (cond three 3 (cond two 2 (cond one 1 0))))
greatest_by false three two one test a t3 t2 t1 = absurd (let w = a in cc)
greatest_by true true two one test a t3 t2 t1 = grind arith
greatest_by true false true one test a t3 t2 t1 = grind (arith, above_two)
greatest_by true false false true test a t3 t2 t1 = grind (arith, above_one)
greatest_by true false false false test a t3 t2 t1 = grind (arith, cases_eq, above_one)

-- the sure code of a question is the greatest that it surely attains on a position that it is about
pub sure_code_greatest : (q : ReadingQuestion) (pos : BoardState) → is_about q pos ≡ true
    → IsGreatestSureCode q pos (sure_code_of q pos)
unfolding sure_code_of
sure_code_greatest q pos about = grind (arith, greatest_by)

-- a question about another position
pub sure_code_another : (q : ReadingQuestion) (pos : BoardState) → is_about q pos ≡ false → sure_code_of q pos ≡ 0
unfolding sure_code_of
sure_code_another q pos f = grind arith

-- a question about another position is answered with code 0 and no move
pub sure_answer_another : (q : ReadingQuestion) (pos : BoardState) → is_about q pos ≡ false
    → sure_answer_of q pos ≡ record { code = 0; at = None }
unfolding sure_answer_of
sure_answer_another q pos f = ap (λ (k : ℕ). record { code = k; at = sure_move_of q pos k }) (sure_code_another q pos f)

-- the code of the answer is the code of the question
pub code-sure_answer_of : (q : ReadingQuestion) (pos : BoardState) → (sure_answer_of q pos).code ≡ sure_code_of q pos
unfolding sure_answer_of
code-sure_answer_of q pos = refl

-- the move of the answer is that of its code
pub at-sure_answer_of : (q : ReadingQuestion) (pos : BoardState)
    → (sure_answer_of q pos).at ≡ sure_move_of q pos (sure_code_of q pos)
unfolding sure_answer_of
at-sure_answer_of q pos = refl

-- an answer with code 0 has no move
pub sure_no_move : (q : ReadingQuestion) (pos : BoardState) → sure_code_of q pos ≡ 0 → (sure_answer_of q pos).at ≡ None
sure_no_move q pos e = at-sure_answer_of q pos ∙ ap (sure_move_of q pos) e

-- what is not denied holds
not_not : (b : Bool) → not (not b) ≡ b
not_not true = refl
not_not false = refl

-- a question that is about the position attains a code exactly if the side to play has a move that succeeds
pub surely_attained_by : (q : ReadingQuestion) (pos : BoardState) (code : ℕ) → q.plies ≢ 0
    → is_captured pos q.target ≡ false
    → is_some (sure_move (q.plies - 1) (first_node q code) pos) ≡ surely_attains q pos code
surely_attained_by q pos code ne h = grind (arith, cases_Bool, sure-attacker_move, not_not, sure-defender_move)

-- a move that is there was not barred
pub not_barred : (barred : Bool) (first : Option Spot) → is_some (cond barred None first) ≡ true
    → cond barred None first ≡ first
not_barred true first s = absurd (let w = s in cc)
not_barred false first s = refl

-- a move that is there
there_move : (o : Option Spot) → is_some o ≡ true → (spot : Spot) × (o ≡ Some spot)
there_move None e = cc
there_move (Some spot) e = (spot, refl)

-- a code above 0 has the first move that attains it
pub sure_move_of-code : (q : ReadingQuestion) (pos : BoardState) (code : ℕ) → code ≢ 0
    → sure_move_of q pos code ≡ first_sure_move_of q pos code
sure_move_of-code q pos code ne = ap (λ b. cond b None (first_sure_move_of q pos code)) (ne_eqb code 0 ne)

-- for a code above 0 the answer has a move, and it is the first
pub sure_answer_first : (q : ReadingQuestion) (pos : BoardState) → q.plies ≢ 0 → sure_code_of q pos ≢ 0
    → (spot : Spot) × ((sure_answer_of q pos).at ≡ Some spot)
    × IsFirstSureMove (q.plies - 1) (first_node q (sure_code_of q pos)) pos spot
sure_answer_first q pos some ne = elim (cases_Bool (is_about q pos)) [
  | inr f ↦ absurd (ne (sure_code_another q pos f))
  | inl about ↦
      let code = sure_code_of q pos in
      let hit = surely_attained_by q pos code some (about_stands q pos about)
      ∙ (sure_code_greatest q pos about).attained ne in
      let move = there_move (sure_move (q.plies - 1) (first_node q code) pos) hit in
      let first = sym (not_barred _ (first_sure_move (q.plies - 1) (first_node q code) pos) hit) ∙ move.1 in (
        move.0,
        at-sure_answer_of q pos ∙ sure_move_of-code q pos code ne ∙ first,
        first_sure_move_gives (q.plies - 1) (first_node q code) pos move.0 first,
      )
]

-- the sure code of an attack is at most its code
pub attack_code_at_most : (q : ReadingQuestion) (pos : BoardState) → q.kind ≡ Attack → sure_code_of q pos ≤ code_of q pos
attack_code_at_most q pos kind =
    grind (arith, cases_Bool, sure_code_another, sure_code_greatest, code_greatest, cases_lt, both_ways, sure_is_won)

-- the sure code of a defence is at least its code
pub defend_code_at_least : (q : ReadingQuestion) (pos : BoardState) → q.kind ≡ Defend → code_of q pos ≤ sure_code_of q pos
defend_code_at_least q pos kind =
    grind (
      arith,
      cases_Bool,
      code_another,
      sure_code_greatest,
      code_greatest,
      cases_lt,
      both_ways,
      not_before,
      sure_is_won,
    )
