-- The code is the greatest under which a move was found, and the move is that one.
use Rattle.std.proofs.Common.{◌≡◌, ◌∙◌, ◌-◌, sym, ap, arith, inl, inr}
use Rattle.std.proofs.lemmas.Bool.{cases_eq}
use Rattle.read_rules.specs.Answer.{first_node}
use Rattle.sure_rules.specs.SureAnswer.{sure_move}
use Rattle.read_sure.proofs.SureCode.{answer_none, answer_some}
use Rattle.read_zones.proofs.answers.answer_on.Goals as goal

-- one was found under code 3
pub returns-in-Some-clause-answer : goal.returns-in-Some-clause-answer
returns-in-Some-clause-answer c =
    answer_some c.args.question.now c.args.position.now (omega (arith, c.requires.plies)) c.requires.about 3
    c.in-Some.spot (omega arith) (omega arith) (sym c.move_under.ensures.first ∙ c.in-Some.is)
    (λ more lo hi. absurd (omega (arith, lo, hi)))

-- none was found under code 1, so none is there under any
pub returns-in_default-move_under-clause-answer : goal.returns-in_default-move_under-clause-answer
returns-in_default-move_under-clause-answer c =
    answer_none c.args.question.now c.args.position.now (omega (arith, c.requires.plies)) c.requires.about
    (sym c.move_under-2.ensures.first ∙ c.in_default-move_under.is)

-- one was found under code 2, and none under code 3
pub returns-in-Some-move_under-2-clause-answer : goal.returns-in-Some-move_under-2-clause-answer
returns-in-Some-move_under-2-clause-answer c =
    let q = c.args.question.now in
    let here = c.args.position.now in
    answer_some q here (omega (arith, c.requires.plies)) c.requires.about 2 c.in-Some-move_under-2.spot (omega arith)
    (omega arith) (sym c.move_under-3.ensures.first ∙ c.in-Some-move_under-2.is) (λ more lo hi.
    let is_three : more ≡ 3 = omega (arith, lo, hi) in
    ap (λ m. sure_move (q.plies - 1) (first_node q m) here) is_three ∙ sym c.move_under.ensures.first ∙ c.in_default.is)

-- one was found under code 1, and none under the others
pub returns-clause-answer : goal.returns-clause-answer
returns-clause-answer c =
    let q = c.args.question.now in
    let here = c.args.position.now in
    answer_some q here (omega (arith, c.requires.plies)) c.requires.about 1 c.in-Some-move_under.first (omega arith)
    (omega arith) (sym c.move_under-2.ensures.first ∙ c.in-Some-move_under.is) (λ more lo hi. elim (cases_eq more 3) [
      | inl is_three ↦ grind arith
      | inr less ↦ grind arith
    ])
