-- The best of all moves is the answer, and the reading stays in the area.
use Rattle.std.proofs.Common.{ℕ, List, rules, ◌≡◌, ◌≢◌, ◌∙◌, ◌-◌, Bool, true, false, ap, sym, arith}
use Rattle.std.specs.FinSet as set
use Rattle.std.specs.Ordering.{nat_cmp}
use Rattle.go_rules.specs.declared.Cell.{Cell}
use Rattle.go_rules.specs.Strings.{liberties, liberty_points}
use Rattle.go_base.proofs.Liberties.{len-liberty_points}
use Rattle.read_rules.specs.Answer.{first_turn}
use Rattle.read_rules.specs.Candidates.{is_candidate}
use Rattle.read_rules.specs.declared.question.ReadingQuestion.{ReadingQuestion}
use Rattle.read_rules.specs.Bound.{outlasts_at}
use Rattle.go_base.specs.Facts.{agrees_before}
use Rattle.go_base.specs.Views.{nowhere}
use Rattle.trial_board.specs.Trials.{after}
use Rattle.trial_board.proofs.AfterLemmas.{size-after}
use Rattle.read_rules.specs.declared.turn.Turn.{Turn}
use Rattle.read_tree.specs.Allowances.{Ko, neither_may, under}
use Rattle.read_rules.proofs.AnswerLemmas.{about_stands}
use Rattle.read_rules.proofs.AreaLemmas.{AddsNear-trans, undecided_defender}
use Rattle.read_tree.proofs.BestLemmas.{best_pass, best_three, attack_answer, defence_answer, first_nodes}
use Rattle.read_tree.proofs.TurnBounds.{undecided_at}
use Rattle.read_rules.specs.ActiveArea.{IsUndecided, InActiveArea, AddsNear}
use Rattle.read_rules.specs.Answer.{is_about}
use Rattle.read_tree.specs.Steps.{IsBest}
use Rattle.read_tree.specs.Walk.{OnEachAgreeing}
use Rattle.read_tree.proofs.reading.read_by.Given.{Over}
use Rattle.read_tree.proofs.reading.read_by.Goals.{After-best_point, After-better-best}
use Rattle.read_tree.proofs.reading.read_by.Goals as goal

-- whose turn the first is
turn_of : {turn first : Turn} {b : Bool} → turn ≡ first → turn.attacker_to_play ≡ b → first.attacker_to_play ≡ b
turn_of e h = sym (ap (λ (t : Turn). t.attacker_to_play) e) ∙ h

-- liberties that are known and not too many are not too many on the board
few_at : (q : ReadingQuestion) (s : ℕ) (cells : List Cell) (known : set.FinSet nat_cmp)
    → outlasts_at (first_turn q) q.plies (set.len known) ≡ false
    → known ≡ liberty_points s cells q.target
    → outlasts_at (first_turn q) q.plies (liberties s cells q.target) ≡ false
few_at q s cells known few is = grind (arith, len-liberty_points)

-- The attacker's moves were read.
module _ (g : Over) (c : After-best_point g) where
  -- on a position that agrees, the first turn is undecided where the question is about it
  first_undecided : OnEachAgreeing g.L.Look.seen c.args.board.now c.best_point.new.board (λ here.
      is_about c.args.question.now here ≡ true → (ko : Ko)
      → IsUndecided (under (first_turn c.args.question.now) ko) here)
  first_undecided pos a about =
      let q = c.args.question.now in
      let here = after pos c.args.board.now.moves in
      undecided_at q.plies (first_turn q) here pos.size (size-after pos c.args.board.now.moves)
      (about_stands q here about) (few_at q pos.size here.cells c.args.known.now c.requires.ready.few
      (c.requires.ready.liberties pos (agrees_before c.best_point.ensures.stays.grows a)))

-- the attacker's moves, whose looks lie in the active area
pub returns-then-turn : goal.returns-then-turn
returns-then-turn g c =
    let q = c.args.question.now in
    let some : q.plies ≢ 0 = omega (arith, c.requires.ready.plies) in
    let attacks = turn_of c.first_turn-turn.ensures c.if-turn.true in
    let und = first_undecided g (goal.at.returns-then-turn g c).After-best_point in
    record {
      stays = c.best_point.ensures.stays;
      code = c.best_point.ensures.code;
      none = c.best_point.ensures.none;
      on_board = c.best_point.ensures.on_board;
      over = λ pos a about.
          attack_answer q (after pos c.args.board.now.moves) c.best_point.result some about attacks
          (und pos a about neither_may) (rw c.first_turn-turn.ensures at (c.best_point.ensures.over pos a));
      near = λ pos a about.
          (rw c.first_turn-turn.ensures at (c.best_point.ensures.near pos a q (after pos c.args.board.now.moves)))
          (first_nodes q (after pos c.args.board.now.moves) some) (und pos a about);
    }

-- The defender's pass was read.
module _ (g : Over) (c : After-better-best g) where
  -- the first turn is not the attacker's
  defends : (first_turn c.args.question.now).attacker_to_play ≡ false
  defends = turn_of c.first_turn-turn.ensures c.if-turn.false

  -- it is the best so far, on each position that agrees
  pass_best : OnEachAgreeing g.L.Look.seen c.args.board.now c.pass_saves-saved.new.board (λ here.
      IsBest (c.args.question.now.plies - 1) (first_turn c.args.question.now) here nowhere c.better-best.result)
  pass_best pos a =
      let q = c.args.question.now in
      let saved = rw (c.all.ensures, c.first_turn-turn.ensures) at (c.pass_saves-saved.ensures.over pos a) in
      rw (c.better-best.ensures.is, c.first_turn-turn.ensures)
      (best_pass (q.plies - 1) (first_turn q) (after pos c.args.board.now.moves) c.pass_saves-saved.result saved)

  -- the looks after it lie in the active area
  pass_near : OnEachAgreeing g.L.Look.seen c.args.board.now c.pass_saves-saved.new.board (λ here.
      is_about c.args.question.now here ≡ true → AddsNear (g.L.Look.seen c.args.board.now.look)
      (g.L.Look.seen c.pass_saves-saved.new.board.look) (InActiveArea c.args.question.now here))
  pass_near pos a about =
      let q = c.args.question.now in
      let here = after pos c.args.board.now.moves in
      let some : q.plies ≢ 0 = omega (arith, c.requires.ready.plies) in
      (rw (c.all.ensures, c.first_turn-turn.ensures) at (c.pass_saves-saved.ensures.near pos a q here))
      (first_nodes q here some) (about_stands q here about)

-- the defender's pass saves under each allowance, and the looks after it lie in the active area
pub returns-then-best-eq3 : goal.returns-then-best-eq3
returns-then-best-eq3 g c =
    let d = (goal.at.returns-then-best-eq3 g c).After-better-best in
    record {
      stays = search rules;
      code = search rules;
      none = search rules;
      on_board = search rules;
      over = λ pos a about.
          let q = c.args.question.now in
          let here = after pos c.args.board.now.moves in
          defence_answer q here c.better-best.result (omega (arith, c.requires.ready.plies)) about (defends g d)
          (best_three (q.plies - 1) (first_turn q) here nowhere c.better-best.result (pass_best g d pos a)
          c.if-best-eq3.true (is_candidate (first_turn q) here));
      near = pass_near g d;
    }

-- the pass, and then the defender's plays: their looks lie in the active area
pub returns : goal.returns
returns g c =
    let d = (goal.at.returns g c).After-better-best in
    let q = c.args.question.now in
    let some : q.plies ≢ 0 = omega (arith, c.requires.ready.plies) in
    let later = c.best_point-2.ensures in
    record {
      stays = search rules;
      code = search rules;
      none = search rules;
      on_board = search rules;
      over = λ pos a about.
          defence_answer q (after pos c.args.board.now.moves) c.best_point-2.result some about (defends g d)
          ((rw (c.pass_saves-saved.ensures.stays.moves, c.first_turn-turn.ensures) at (later.over pos a))
          (pass_best g d pos (agrees_before later.stays.grows a)));
      near = λ pos a about.
          let here = after pos c.args.board.now.moves in
          AddsNear-trans (pass_near g d pos (agrees_before later.stays.grows a) about)
          ((rw (c.pass_saves-saved.ensures.stays.moves, c.first_turn-turn.ensures) at (later.near pos a q here))
          (first_nodes q here some) (λ ko. undecided_defender (about_stands q here about) (defends g d)));
    }

-- what the table tells is of the first turn's target
pub best_point-requires-clause-table : goal.best_point-requires-clause-table
best_point-requires-clause-table g c = rw c.first_turn-turn.ensures c.requires.table

-- and so are the liberties
pub best_point-requires-clause-liberties : goal.best_point-requires-clause-liberties
best_point-requires-clause-liberties g c = λ pos a. rw c.first_turn-turn.ensures (c.requires.ready.liberties pos a)

-- also where the pass is tried
pub pass_saves-saved-requires-clause-ready : goal.pass_saves-saved-requires-clause-ready
pass_saves-saved-requires-clause-ready g c = grind arith
