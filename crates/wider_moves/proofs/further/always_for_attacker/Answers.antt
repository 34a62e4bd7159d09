-- Beside and Rescue were gathered.
use Rattle.std.proofs.Common.{◌*◌, sym, ◌∙◌}
use Rattle.std.proofs.lemmas.Bool.{and_parts, ltb-true}
use Rattle.go_base.specs.Facts.{agrees_before, AddsIn-trans, AddsIn-mono}
use Rattle.trial_board.proofs.WalkLemmas.{on_agreed}
use Rattle.trial_board.specs.Trials.{after}
use Rattle.wider_rules.proofs.FurtherPlaces.{second_third}
use Rattle.wider_rules.proofs.SetLemmas.{attacker_always}
use Rattle.wider_moves.proofs.NearLemmas.{around_allies}
use Rattle.wider_moves.proofs.further.always_for_attacker.Goals as goal

-- the allies are on the board
pub last_liberties-rescues-requires : goal.last_liberties-rescues-requires
last_liberties-rescues-requires g c = λ r h.
    let look = c.weak_enemies-weak.new.board.look in
    let shown = g.L.Look.shows look in
    let is = c.weak_enemies-weak.ensures.allies shown (g.met.L.Look.holds look) r in
    ltb-true r (shown.size * shown.size) (and_parts _ _ (sym is ∙ h)).0

-- what was joined are the two sets
pub returns-clause-over : goal.returns-clause-over
returns-clause-over g c = λ pos a p.
    let a1 = agrees_before c.last_liberties-rescues.ensures.stays.grows a in
    let m1 = c.weak_enemies-weak.ensures.stays.moves in
    let weak = c.weak_enemies-weak in
    attacker_always pos.size (after pos c.args.board.now.moves).cells c.args.target p weak.result.liberties
    weak.result.allies c.last_liberties-rescues.result c.join.new.self c.join.ensures (weak.ensures.liberties pos a1 p)
    (weak.ensures.allies pos a1) (rw m1 at (c.last_liberties-rescues.ensures.over pos a p))

-- each look is in the third area
pub returns-clause-near : goal.returns-clause-near
returns-clause-near g c = λ pos a.
    let a1 = agrees_before c.last_liberties-rescues.ensures.stays.grows a in
    let a0 = agrees_before c.weak_enemies-weak.ensures.stays.grows a1 in
    let m1 = c.weak_enemies-weak.ensures.stays.moves in
    let cells = (after pos c.args.board.now.moves).cells in
    let on = on_agreed _ _ (g.met.L.Look.sized c.args.board.now.look) a0 c.requires.on_board in
    let last = rw m1 at (c.last_liberties-rescues.ensures.near pos a) in
    AddsIn-trans (AddsIn-mono (c.weak_enemies-weak.ensures.near pos a1) (second_third pos.size cells c.args.target on))
    (AddsIn-mono last (λ r h. around_allies pos.size cells c.args.target on 2 c.weak_enemies-weak.result.allies r
    (c.weak_enemies-weak.ensures.allies pos a1) h))
