-- The liberties of the strings in the way that have at most two are Approach.
use Rattle.std.proofs.Common.{◌*◌, sym, ◌∙◌}
use Rattle.std.proofs.lemmas.Bool.{and_parts, ltb-true}
use Rattle.go_base.specs.Facts.{agrees_before, AddsIn-trans, AddsIn-mono}
use Rattle.trial_board.proofs.WalkLemmas.{on_agreed}
use Rattle.trial_board.specs.Trials.{after}
use Rattle.wider_rules.proofs.SetLemmas.{approach_is}
use Rattle.wider_moves.proofs.ApproachLemmas.{way_fourth}
use Rattle.wider_moves.proofs.approach.approach.Goals as goal

-- the stones in the way are on the board
pub around_strings-near-requires : goal.around_strings-near-requires
around_strings-near-requires g c = λ q h.
    let look = c.in_the_way-foes.new.board.look in
    let shown = g.L.Look.shows look in
    let is = c.in_the_way-foes.ensures.over shown (g.met.L.Look.holds look) q in
    ltb-true q (shown.size * shown.size) (and_parts _ _ (sym is ∙ h)).0

-- their liberties are Approach
pub returns-clause-over : goal.returns-clause-over
returns-clause-over g c = λ pos a p.
    let a1 = agrees_before c.around_strings-near.ensures.stays.grows a in
    let came = rw c.in_the_way-foes.ensures.stays.moves at (c.around_strings-near.ensures.liberties pos a p) in
    came ∙ approach_is pos.size (after pos c.args.board.now.moves).cells c.args.target p c.in_the_way-foes.result
    (c.in_the_way-foes.ensures.over pos a1)

-- each look is in the fourth area
pub returns-clause-near : goal.returns-clause-near
returns-clause-near g c = λ pos a.
    let a1 = agrees_before c.around_strings-near.ensures.stays.grows a in
    let a0 = agrees_before c.in_the_way-foes.ensures.stays.grows a1 in
    let cells = (after pos c.args.board.now.moves).cells in
    let on = on_agreed _ _ (g.met.L.Look.sized c.args.board.now.look) a0 c.requires in
    let strings = rw c.in_the_way-foes.ensures.stays.moves at (c.around_strings-near.ensures.near pos a) in
    AddsIn-trans (c.in_the_way-foes.ensures.near pos a1)
    (AddsIn-mono strings (λ r h. way_fourth pos.size cells c.args.target on c.in_the_way-foes.result r
    (c.in_the_way-foes.ensures.over pos a1) h))
