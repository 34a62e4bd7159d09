-- The enemy stones next to l came where a stone is cramped there, and nothing elsewhere.
use Rattle.std.proofs.Common.{arith}
use Rattle.go_base.specs.Facts.{agrees_before, AddsIn-trans, AddsIn-mono}
use Rattle.trial_board.proofs.WalkLemmas.{on_agreed}
use Rattle.trial_board.specs.Trials.{after}
use Rattle.wider_rules.proofs.StringLemmas.{adds_nothing}
use Rattle.wider_moves.proofs.ApproachLemmas.{neighbours_near, cramped_adds}
use Rattle.wider_moves.proofs.approach.add_in_the_way.Goals as goal

-- a stone is cramped there
pub returns-then-is_cramped-clause-over : goal.returns-then-is_cramped-clause-over
returns-then-is_cramped-clause-over g c = grind (arith, cramped_adds)

-- none is
pub returns-else-is_cramped-clause-over : goal.returns-else-is_cramped-clause-over
returns-else-is_cramped-clause-over g c = grind (arith, adds_nothing)

-- each look is near l
pub returns-then-is_cramped-clause-near : goal.returns-then-is_cramped-clause-near
returns-then-is_cramped-clause-near g c = λ pos a.
    let a1 = agrees_before c.add_sides.ensures.stays.grows a in
    let a0 = agrees_before c.is_cramped.ensures.stays.grows a1 in
    let cells = (after pos c.args.board.now.moves).cells in
    let on = on_agreed _ _ (g.met.L.Look.sized c.args.board.now.look) a0 c.requires in
    AddsIn-trans (c.is_cramped.ensures.near pos a1)
    (AddsIn-mono (c.add_sides.ensures.near pos a) (neighbours_near pos.size cells c.args.l on))
