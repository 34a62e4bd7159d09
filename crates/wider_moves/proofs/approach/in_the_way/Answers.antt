-- The enemy stones next to cramped liberties of weak enemy strings stand in the way.
use Rattle.std.proofs.Common.{◌*◌, ◌&&◌, sym, ap, ◌∙◌}
use Rattle.std.specs.FinSet as set
use Rattle.go_rules.specs.Below.{any_below}
use Rattle.go_rules.specs.declared.Cell.{Cell}
use Rattle.go_base.specs.Facts.{agrees_before, AddsIn-trans, AddsIn-mono}
use Rattle.trial_board.proofs.WalkLemmas.{on_agreed}
use Rattle.trial_board.specs.Trials.{after}
use Rattle.wider_rules.proofs.FurtherLaws.{beside_gives}
use Rattle.wider_rules.proofs.SetLemmas.{way_is}
use Rattle.wider_rules.specs.Cramped.{foe_of, is_cramped}
use Rattle.wider_rules.specs.Strings.{holds_next}
use Rattle.wider_moves.proofs.ApproachLemmas.{beside_fourth}
use Rattle.wider_moves.proofs.NearLemmas.{self_second, second_fourth}
use Rattle.wider_moves.proofs.approach.in_the_way.Goals as goal

-- the liberties of weak enemies are on the board
pub beside_cramped-requires : goal.beside_cramped-requires
beside_cramped-requires g c = λ l h.
    let look = c.weak_enemies-weak.new.board.look in
    let shown = g.L.Look.shows look in
    let is = c.weak_enemies-weak.ensures.liberties shown (g.met.L.Look.holds look) l in
    (beside_gives shown.size _ c.args.target 2 l (sym is ∙ h)).2.on_board

-- what was gathered stands in the way
pub returns-clause-over : goal.returns-clause-over
returns-clause-over g c = λ pos a r.
    let a2 = agrees_before c.beside_cramped.ensures.stays.grows a in
    let a1 = agrees_before c.weak_enemies-weak.ensures.stays.grows a2 in
    let m1 = c.cell-own.ensures.stays.moves in
    let m2 = c.weak_enemies-weak.ensures.stays.moves ∙ m1 in
    let cells = (after pos c.args.board.now.moves).cells in
    way_is pos.size cells c.args.target r c.weak_enemies-weak.result.liberties c.beside_cramped.result
    (rw m1 at (c.weak_enemies-weak.ensures.liberties pos a2))
    (rw m2 at (c.beside_cramped.ensures.over pos a r)
    ∙ ap (λ (own : Cell). any_below (pos.size * pos.size) (λ l. set.contains c.weak_enemies-weak.result.liberties l
    && (is_cramped pos.size cells own l && holds_next pos.size cells (foe_of own) l r))) (c.cell-own.ensures.over pos a1))

-- each look is in the fourth area
pub returns-clause-near : goal.returns-clause-near
returns-clause-near g c = λ pos a.
    let a2 = agrees_before c.beside_cramped.ensures.stays.grows a in
    let a1 = agrees_before c.weak_enemies-weak.ensures.stays.grows a2 in
    let a0 = agrees_before c.cell-own.ensures.stays.grows a1 in
    let m1 = c.cell-own.ensures.stays.moves in
    let m2 = c.weak_enemies-weak.ensures.stays.moves ∙ m1 in
    let cells = (after pos c.args.board.now.moves).cells in
    let on = on_agreed _ _ (g.met.L.Look.sized c.args.board.now.look) a0 c.requires in
    let fourth = second_fourth pos.size cells c.args.target on in
    AddsIn-trans (AddsIn-mono c.cell-own.ensures.near (λ r h. fourth r (self_second pos.size cells c.args.target on r h)))
    (AddsIn-trans (AddsIn-mono (rw m1 at (c.weak_enemies-weak.ensures.near pos a2)) fourth)
    (AddsIn-mono (rw m2 at (c.beside_cramped.ensures.near pos a)) (λ r h. beside_fourth pos.size cells c.args.target on
    c.weak_enemies-weak.result.liberties r (rw m1 at (c.weak_enemies-weak.ensures.liberties pos a2)) h)))
