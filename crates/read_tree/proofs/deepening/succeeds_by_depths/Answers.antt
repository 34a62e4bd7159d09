-- What was found of what is open, with what is closed, tells of all that was asked.
use Rattle.std.proofs.Common.{◌∙◌, sym}
use Rattle.go_base.specs.Facts.{agrees_before}
use Rattle.read_rules.proofs.AreaLemmas.{AddsNear-trans}
use Rattle.read_tree.proofs.AllowanceLemmas.{fewer_nodes}
use Rattle.read_tree.proofs.DeepeningLemmas.{closed_tells, none_tells}
use Rattle.read_tree.proofs.deepening.succeeds_by_depths.Goals as goal

-- nothing is open
pub returns-then-not-has_some-clause-over : goal.returns-then-not-has_some-clause-over
returns-then-not-has_some-clause-over g c = λ pos a.
    let none = sym c.has_some.ensures ∙ c.if-not-has_some.true in
    closed_tells c.open_after_fewer-left.result _ (c.open_after_fewer-left.ensures.over pos a)
    (none_tells c.open_after_fewer-left.result _ none) c.with_closed.ensures

-- with all plies
pub returns-clause-over : goal.returns-clause-over
returns-clause-over g c = λ pos a.
    let first = c.open_after_fewer-left.ensures in
    let a1 = agrees_before c.succeeds-good.ensures.stays.grows a in
    closed_tells c.succeeds-good.result _ (first.over pos a1)
    (rw first.stays.moves at (c.succeeds-good.ensures.over pos a)) c.with_closed-2.ensures

-- both look at the active area alone
pub returns-clause-near : goal.returns-clause-near
returns-clause-near g c = λ pos a q root tree und its.
    let first = c.open_after_fewer-left.ensures in
    let a1 = agrees_before c.succeeds-good.ensures.stays.grows a in
    AddsNear-trans (first.near pos a1 q root tree und its)
    ((rw first.stays.moves at (c.succeeds-good.ensures.near pos a q root))
    (fewer_nodes c.open_after_fewer-left.result tree (first.over pos a1).asked_for) und its)
