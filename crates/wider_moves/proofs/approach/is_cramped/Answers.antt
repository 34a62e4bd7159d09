-- More than one point is reached, or something is taken, or the stone is cramped.
use Rattle.go_base.specs.Facts.{agrees_before, AddsIn-trans}
use Rattle.trial_board.specs.Trials.{after}
use Rattle.wider_moves.proofs.ApproachLemmas.{not_cramped, cramped_is}
use Rattle.wider_moves.proofs.approach.is_cramped.Goals as goal

-- more than one point is reached
pub returns-then-count-gt-FEW_REACHED-clause-over : goal.returns-then-count-gt-FEW_REACHED-clause-over
returns-then-count-gt-FEW_REACHED-clause-over g c = λ pos a.
    not_cramped pos.size (after pos c.args.board.now.moves).cells c.args.own c.args.l c.reached.result c.count.result
    (c.reached.ensures.over pos a) c.count.ensures.value c.if-count-gt-FEW_REACHED.true

-- one at most
pub returns-clause-over : goal.returns-clause-over
returns-clause-over g c = λ pos a.
    let a1 = agrees_before c.takes_some.ensures.stays.grows a in
    cramped_is pos.size (after pos c.args.board.now.moves).cells c.args.own c.args.l c.reached.result c.count.result
    c.takes_some.result (c.reached.ensures.over pos a1) c.count.ensures.value c.if-count-gt-FEW_REACHED.false
    (rw c.reached.ensures.stays.moves at (c.takes_some.ensures.over pos a))

-- each look is near l
pub returns-clause-near : goal.returns-clause-near
returns-clause-near g c = λ pos a.
    AddsIn-trans (c.reached.ensures.near pos (agrees_before c.takes_some.ensures.stays.grows a))
    (rw c.reached.ensures.stays.moves at (c.takes_some.ensures.near pos a))
