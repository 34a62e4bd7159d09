-- Save and Cut were gathered.
use Rattle.std.proofs.Common.{◌*◌, ◌<◌, sym, subst, ◌∙◌}
use Rattle.std.proofs.lemmas.Bool.{and_parts, ltb-true}
use Rattle.go_rules.specs.Position.{BoardState}
use Rattle.go_base.specs.Facts.{agrees_before, AddsIn-trans, AddsIn-mono}
use Rattle.trial_board.proofs.WalkLemmas.{on_agreed}
use Rattle.trial_board.specs.Trials.{after}
use Rattle.wider_rules.proofs.FurtherPlaces.{third_fourth}
use Rattle.wider_rules.proofs.SetLemmas.{defender_always}
use Rattle.wider_moves.proofs.NearLemmas.{around_allies, around_cutters, second_fourth}
use Rattle.wider_moves.proofs.further.always_for_defender.Goals as goal

-- the allies are on the board
pub last_liberties-found-requires : goal.last_liberties-found-requires
last_liberties-found-requires g c = λ r h.
    let look = c.weak_enemies-weak.new.board.look in
    let shown = g.L.Look.shows look in
    let is = c.weak_enemies-weak.ensures.allies shown (g.met.L.Look.holds look) r in
    ltb-true r (shown.size * shown.size) (and_parts _ _ (sym is ∙ h)).0

-- the enemies next to linked strings are on the board, whose size the looks keep
pub last_liberties-cuts-requires : goal.last_liberties-cuts-requires
last_liberties-cuts-requires g c = λ r h.
    let look = c.linked_strings-linked.new.board.look in
    let shown = g.L.Look.shows look in
    let is = c.linked_strings-linked.ensures.enemies shown (g.met.L.Look.holds look) r in
    subst (λ (pos : BoardState). r < pos.size * pos.size)
    (sym (c.last_liberties-found.ensures.stays.shown ∙ c.weak_enemies-weak.ensures.stays.shown))
    (ltb-true r (shown.size * shown.size) (and_parts _ _ (sym is ∙ h)).0)

-- what was joined are the two sets
pub returns-clause-over : goal.returns-clause-over
returns-clause-over g c = λ pos a p.
    let a3 = agrees_before c.last_liberties-cuts.ensures.stays.grows a in
    let a2 = agrees_before c.last_liberties-found.ensures.stays.grows a3 in
    let a1 = agrees_before c.weak_enemies-weak.ensures.stays.grows a2 in
    let m1 = c.linked_strings-linked.ensures.stays.moves in
    let m2 = c.weak_enemies-weak.ensures.stays.moves ∙ m1 in
    let m3 = c.last_liberties-found.ensures.stays.moves ∙ m2 in
    defender_always pos.size (after pos c.args.board.now.moves).cells c.args.target p c.weak_enemies-weak.result.allies
    c.last_liberties-found.result c.linked_strings-linked.result.enemies c.last_liberties-cuts.result c.join.new.self
    c.join.ensures (rw m1 at (c.weak_enemies-weak.ensures.allies pos a2))
    (rw m2 at (c.last_liberties-found.ensures.over pos a3 p)) (c.linked_strings-linked.ensures.enemies pos a1)
    (rw m3 at (c.last_liberties-cuts.ensures.over pos a p))

-- each look is in the fourth area
pub returns-clause-near : goal.returns-clause-near
returns-clause-near g c = λ pos a.
    let a3 = agrees_before c.last_liberties-cuts.ensures.stays.grows a in
    let a2 = agrees_before c.last_liberties-found.ensures.stays.grows a3 in
    let a1 = agrees_before c.weak_enemies-weak.ensures.stays.grows a2 in
    let a0 = agrees_before c.linked_strings-linked.ensures.stays.grows a1 in
    let m1 = c.linked_strings-linked.ensures.stays.moves in
    let m2 = c.weak_enemies-weak.ensures.stays.moves ∙ m1 in
    let m3 = c.last_liberties-found.ensures.stays.moves ∙ m2 in
    let cells = (after pos c.args.board.now.moves).cells in
    let on = on_agreed _ _ (g.met.L.Look.sized c.args.board.now.look) a0 c.requires.on_board in
    let fourth = third_fourth pos.size cells c.args.target on in
    let weak = rw m1 at (c.weak_enemies-weak.ensures.near pos a2) in
    let allies = rw m1 at (c.weak_enemies-weak.ensures.allies pos a2) in
    let saves = rw m2 at (c.last_liberties-found.ensures.near pos a3) in
    let cuts = rw m3 at (c.last_liberties-cuts.ensures.near pos a) in
    AddsIn-trans (AddsIn-mono (c.linked_strings-linked.ensures.near pos a1) fourth)
    (AddsIn-trans (AddsIn-mono weak (second_fourth pos.size cells c.args.target on))
    (AddsIn-trans (AddsIn-mono saves
    (λ r h. fourth r (around_allies pos.size cells c.args.target on 2 c.weak_enemies-weak.result.allies r allies h)))
    (AddsIn-mono cuts (λ r h. around_cutters pos.size cells c.args.target on 4 c.linked_strings-linked.result.enemies r
    (c.linked_strings-linked.ensures.enemies pos a1) h))))
