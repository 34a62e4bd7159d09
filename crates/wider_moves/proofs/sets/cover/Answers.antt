-- The empty neighbours of the liberties that Cover goes by are Cover.
use Rattle.std.proofs.Common.{sym, ◌∙◌}
use Rattle.go_base.specs.Facts.{agrees_before, AddsIn-trans, AddsIn-mono}
use Rattle.trial_board.proofs.WalkLemmas.{on_agreed}
use Rattle.trial_board.specs.Trials.{after}
use Rattle.wider_rules.proofs.FurtherPlaces.{second_third}
use Rattle.wider_rules.proofs.SetLemmas.{cover_is}
use Rattle.wider_moves.proofs.NearLemmas.{covered_on, around_covered}
use Rattle.wider_moves.proofs.sets.cover.Goals as goal

-- these liberties are on the board
pub sides_of-requires : goal.sides_of-requires
sides_of-requires g c = λ l h.
    let look = c.covered_liberties-liberties.new.board.look in
    let shown = g.L.Look.shows look in
    let is = c.covered_liberties-liberties.ensures.over shown (g.met.L.Look.holds look) l in
    covered_on shown.size (after shown c.args.board.now.moves).cells c.args.target l (sym is ∙ h)

-- their empty neighbours are Cover
pub returns-clause-over : goal.returns-clause-over
returns-clause-over g c = λ pos a p.
    let a1 = agrees_before c.sides_of.ensures.stays.grows a in
    let came = rw c.covered_liberties-liberties.ensures.stays.moves at (c.sides_of.ensures.over pos a p) in
    came ∙ cover_is pos.size (after pos c.args.board.now.moves).cells c.args.target p
    c.covered_liberties-liberties.result (c.covered_liberties-liberties.ensures.over pos a1)

-- each look is in the third area
pub returns-clause-near : goal.returns-clause-near
returns-clause-near g c = λ pos a.
    let a1 = agrees_before c.sides_of.ensures.stays.grows a in
    let a0 = agrees_before c.covered_liberties-liberties.ensures.stays.grows a1 in
    let cells = (after pos c.args.board.now.moves).cells in
    let on = on_agreed _ _ (g.met.L.Look.sized c.args.board.now.look) a0 c.requires in
    let sides = rw c.covered_liberties-liberties.ensures.stays.moves at (c.sides_of.ensures.near pos a) in
    AddsIn-trans (AddsIn-mono (c.covered_liberties-liberties.ensures.near pos a1)
    (second_third pos.size cells c.args.target on))
    (AddsIn-mono sides (λ r h. around_covered pos.size cells c.args.target on c.covered_liberties-liberties.result r
    (c.covered_liberties-liberties.ensures.over pos a1) h))
