-- Beside, Join, Cover and Approach were gathered.
use Rattle.std.proofs.Common.{◌∙◌}
use Rattle.go_base.specs.Facts.{agrees_before, AddsIn-trans, AddsIn-mono}
use Rattle.trial_board.proofs.WalkLemmas.{on_agreed}
use Rattle.trial_board.specs.Trials.{after}
use Rattle.wider_rules.proofs.FurtherPlaces.{third_fourth}
use Rattle.wider_rules.proofs.SetLemmas.{defender_wide}
use Rattle.wider_moves.proofs.NearLemmas.{second_fourth}
use Rattle.wider_moves.proofs.further.wide_for_defender.Goals as goal

-- what was joined are the four sets
pub returns-clause-over : goal.returns-clause-over
returns-clause-over g c = λ pos a p.
    let a3 = agrees_before c.approach-near.ensures.stays.grows a in
    let a2 = agrees_before c.cover-covers.ensures.stays.grows a3 in
    let a1 = agrees_before c.weak_enemies-weak.ensures.stays.grows a2 in
    let m1 = c.linked_strings-linked.ensures.stays.moves in
    let m2 = c.weak_enemies-weak.ensures.stays.moves ∙ m1 in
    let m3 = c.cover-covers.ensures.stays.moves ∙ m2 in
    defender_wide pos.size (after pos c.args.board.now.moves).cells c.args.target p
    c.weak_enemies-weak.result.liberties c.linked_strings-linked.result.liberties c.cover-covers.result
    c.approach-near.result c.join.new.self c.join-2.new.self c.join-3.new.self c.join.ensures c.join-2.ensures
    c.join-3.ensures (rw m1 at (c.weak_enemies-weak.ensures.liberties pos a2 p))
    (c.linked_strings-linked.ensures.liberties pos a1 p) (rw m2 at (c.cover-covers.ensures.over pos a3 p))
    (rw m3 at (c.approach-near.ensures.over pos a p))

-- each look is in the fourth area
pub returns-clause-near : goal.returns-clause-near
returns-clause-near g c = λ pos a.
    let a3 = agrees_before c.approach-near.ensures.stays.grows a in
    let a2 = agrees_before c.cover-covers.ensures.stays.grows a3 in
    let a1 = agrees_before c.weak_enemies-weak.ensures.stays.grows a2 in
    let a0 = agrees_before c.linked_strings-linked.ensures.stays.grows a1 in
    let m1 = c.linked_strings-linked.ensures.stays.moves in
    let m2 = c.weak_enemies-weak.ensures.stays.moves ∙ m1 in
    let m3 = c.cover-covers.ensures.stays.moves ∙ m2 in
    let cells = (after pos c.args.board.now.moves).cells in
    let on = on_agreed _ _ (g.met.L.Look.sized c.args.board.now.look) a0 c.requires.on_board in
    let fourth = third_fourth pos.size cells c.args.target on in
    AddsIn-trans (AddsIn-mono (c.linked_strings-linked.ensures.near pos a1) fourth)
    (AddsIn-trans (AddsIn-mono (rw m1 at (c.weak_enemies-weak.ensures.near pos a2))
    (second_fourth pos.size cells c.args.target on))
    (AddsIn-trans (AddsIn-mono (rw m2 at (c.cover-covers.ensures.near pos a3)) fourth)
    (rw m3 at (c.approach-near.ensures.near pos a))))
