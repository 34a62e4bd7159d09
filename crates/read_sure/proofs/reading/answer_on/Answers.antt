-- The code is the greatest under which a move was found, and the move is that one.
use Rattle.std.proofs.Common.{◌≡◌, ◌∙◌, ◌-◌, sym, ap, arith, inl, inr}
use Rattle.std.proofs.lemmas.Bool.{cases_eq}
use Rattle.go_base.specs.Facts.{agrees_before}
use Rattle.trial_board.specs.Trials.{after}
use Rattle.read_rules.specs.Answer.{first_node}
use Rattle.sure_rules.specs.SureAnswer.{sure_move}
use Rattle.read_sure.proofs.SureCode.{answer_none, answer_some}
use Rattle.read_sure.proofs.reading.answer_on.Goals as goal

-- none was found under code 1, so none is there under any
pub returns-in_default-clause-over : goal.returns-in_default-clause-over
returns-in_default-clause-over g c = λ pos a about.
    answer_none c.args.question.now (after pos c.args.board.now.moves) (omega (arith, c.requires.plies)) about
    (sym (c.move_under.ensures.over pos a) ∙ c.in_default.is)

-- one was found under code 3
pub returns-in-Some-move_under-clause-over : goal.returns-in-Some-move_under-clause-over
returns-in-Some-move_under-clause-over g c = λ pos a about.
    let three = rw c.move_under.ensures.stays.moves at (c.move_under-2.ensures.over pos a) in
    answer_some c.args.question.now (after pos c.args.board.now.moves) (omega (arith, c.requires.plies)) about 3
    c.in-Some-move_under.spot (omega arith) (omega arith) (sym three ∙ c.in-Some-move_under.is)
    (λ more lo hi. absurd (omega (arith, lo, hi)))

-- one was found under code 2, and none under code 3
pub returns-in-Some-move_under-2-clause-over : goal.returns-in-Some-move_under-2-clause-over
returns-in-Some-move_under-2-clause-over g c = λ pos a about.
    let q = c.args.question.now in
    let here = after pos c.args.board.now.moves in
    let two = rw (c.move_under-2.ensures.stays.moves, c.move_under.ensures.stays.moves) at
    (c.move_under-3.ensures.over pos a) in
    let three = rw c.move_under.ensures.stays.moves at
    (c.move_under-2.ensures.over pos (agrees_before c.move_under-3.ensures.stays.grows a)) in
    answer_some q here (omega (arith, c.requires.plies)) about 2 c.in-Some-move_under-2.spot (omega arith) (omega arith)
    (sym two ∙ c.in-Some-move_under-2.is) (λ more lo hi.
    let is_three : more ≡ 3 = omega (arith, lo, hi) in
    ap (λ m. sure_move (q.plies - 1) (first_node q m) here) is_three ∙ sym three ∙ c.in_default-move_under.is)

-- one was found under code 1, and none under the others
pub returns-clause-over : goal.returns-clause-over
returns-clause-over g c = λ pos a about.
    let q = c.args.question.now in
    let here = after pos c.args.board.now.moves in
    let before_two = agrees_before c.move_under-3.ensures.stays.grows a in
    let before_three = agrees_before c.move_under-2.ensures.stays.grows before_two in
    let two = rw (c.move_under-2.ensures.stays.moves, c.move_under.ensures.stays.moves) at
    (c.move_under-3.ensures.over pos a) in
    let three = rw c.move_under.ensures.stays.moves at (c.move_under-2.ensures.over pos before_two) in
    answer_some q here (omega (arith, c.requires.plies)) about 1 c.in-Some.first (omega arith) (omega arith)
    (sym (c.move_under.ensures.over pos before_three) ∙ c.in-Some.is) (λ more lo hi. elim (cases_eq more 3) [
      | inl is_three ↦
          ap (λ m. sure_move (q.plies - 1) (first_node q m) here) is_three ∙ sym three ∙ c.in_default-move_under.is
      | inr less ↦
          let is_two : more ≡ 2 = omega (arith, lo, hi, less) in
          ap (λ m. sure_move (q.plies - 1) (first_node q m) here) is_two ∙ sym two ∙ c.in_default-move_under-2.is
    ])
