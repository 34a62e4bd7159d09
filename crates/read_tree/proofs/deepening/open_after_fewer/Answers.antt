-- With one number of plies after another, what the attacker wins is closed.
use Rattle.std.proofs.Common.{◌≡◌, ◌∙◌, ◌≤◌, suc, true, ap, sym, arith}
use Rattle.go_base.specs.Facts.{agrees_before}
use Rattle.trial_board.specs.Trials.{Stays-trans}
use Rattle.read_rules.proofs.AreaLemmas.{AddsNear-trans}
use Rattle.read_tree.proofs.StageLemmas.{nothing_near}
use Rattle.read_rules.specs.Candidates.{is_candidate}
use Rattle.read_tree.specs.Allowances.{without}
use Rattle.read_tree.specs.Deepening.{IsLeftOpen}
use Rattle.read_tree.specs.Walk.{LooksNearWhere, OnEachAgreeing}
use Rattle.read_tree.proofs.DeepeningLemmas.{one_near, open_first, open_next}
use Rattle.read_tree.proofs.deepening.open_after_fewer.Given.{Over}
use Rattle.read_tree.proofs.deepening.open_after_fewer.Goals.{After-without-left}
use Rattle.read_tree.proofs.deepening.open_after_fewer.Goals as goal

-- nothing was read yet
pub depths-init : goal.depths-init
depths-init g c = grind (arith, nothing_near, open_first)

-- One more number of plies was read.
module _ (g : Over) (c : After-without-left g) where
  -- what is open after it
  now_open : OnEachAgreeing g.L.Look.seen c.args.board.now c.succeeds-good.new.board (λ here.
      IsLeftOpen c.args.plies c.args.turn here c.args.p c.args.asked c.without-left.result)
  now_open pos a =
      let i = c.depths.invariant in
      let few : c.depths.fewer ≤ c.args.plies = omega (arith, c.depths-test.true) in
      open_next c.depths.fewer c.succeeds-good.result c.without-left.result few
      (i.left pos (agrees_before c.succeeds-good.ensures.stays.grows a))
      (rw i.stays.moves at (c.succeeds-good.ensures.over pos a))
      (c.without-left.ensures ∙ ap (without c.depths.left) c.attackers.ensures)

  -- its looks lie in the active area
  now_near : LooksNearWhere g.L.Look.seen c.args.board.now c.succeeds-good.new.board (suc c.args.plies) c.args.turn
      c.args.asked (λ here. is_candidate c.args.turn here c.args.p ≡ true)
  now_near pos a q root tree und its =
      let i = c.depths.invariant in
      let few : c.depths.fewer ≤ c.args.plies = omega (arith, c.depths-test.true) in
      let a1 = agrees_before c.succeeds-good.ensures.stays.grows a in
      AddsNear-trans (i.near pos a1 q root tree und its)
      (one_near c.depths.fewer c.args.plies few tree c.requires.ready.some (i.left pos a1).asked_for
      (λ less nodes. (rw i.stays.moves at (c.succeeds-good.ensures.near pos a less root)) nodes und its))

-- once nothing is left, all is closed
pub returns-then-not-has_some-clause-over : goal.returns-then-not-has_some-clause-over
returns-then-not-has_some-clause-over g c =
    now_open g (goal.at.returns-then-not-has_some-clause-over g c).After-without-left

-- its looks lie in the active area
pub returns-then-not-has_some-clause-near : goal.returns-then-not-has_some-clause-near
returns-then-not-has_some-clause-near g c = grind (arith, now_near)

-- the next number of plies
pub depths-preserved : goal.depths-preserved
depths-preserved g c =
    let d = (goal.at.depths-preserved g c).After-without-left in
    record {
      stays = Stays-trans c.depths.invariant.stays c.succeeds-good.ensures.stays;
      some = sym c.has_some.ensures ∙ c.if-not-has_some.false;
      table = c.succeeds-good.ensures.table;
      near = now_near g d;
      left = now_open g d;
    }
