-- What stands around the near friends that have few liberties is Join and the enemies that may cut.
use Rattle.std.proofs.Common.{◌*◌, sym, ◌∙◌}
use Rattle.std.proofs.lemmas.Bool.{and_parts, ltb-true}
use Rattle.go_base.specs.Facts.{agrees_before, AddsIn-trans, AddsIn-mono}
use Rattle.trial_board.proofs.WalkLemmas.{on_agreed}
use Rattle.trial_board.specs.Trials.{after}
use Rattle.wider_rules.proofs.FurtherPlaces.{second_third}
use Rattle.wider_rules.proofs.SetLemmas.{join_is, cutter_is}
use Rattle.wider_moves.proofs.NearLemmas.{around_friends}
use Rattle.wider_moves.proofs.sets.linked_strings.Goals as goal

-- the near friends are on the board
pub around_strings-requires : goal.around_strings-requires
around_strings-requires g c = λ q h.
    let look = c.near_friends-friends.new.board.look in
    let shown = g.L.Look.shows look in
    let is = c.near_friends-friends.ensures.over shown (g.met.L.Look.holds look) q in
    ltb-true q (shown.size * shown.size) (and_parts _ _ (sym is ∙ h)).0

-- their liberties are Join
pub returns-clause-liberties : goal.returns-clause-liberties
returns-clause-liberties g c = λ pos a p.
    let a1 = agrees_before c.around_strings.ensures.stays.grows a in
    let came = rw c.near_friends-friends.ensures.stays.moves at (c.around_strings.ensures.liberties pos a p) in
    came ∙ join_is pos.size (after pos c.args.board.now.moves).cells c.args.target p c.near_friends-friends.result
    (c.near_friends-friends.ensures.over pos a1) c.args.most

-- the enemies next to them may cut
pub returns-clause-enemies : goal.returns-clause-enemies
returns-clause-enemies g c = λ pos a r.
    let a1 = agrees_before c.around_strings.ensures.stays.grows a in
    let came = rw c.near_friends-friends.ensures.stays.moves at (c.around_strings.ensures.enemies pos a r) in
    came ∙ cutter_is pos.size (after pos c.args.board.now.moves).cells c.args.target r c.near_friends-friends.result
    (c.near_friends-friends.ensures.over pos a1) c.args.most

-- each look is in the third area
pub returns-clause-near : goal.returns-clause-near
returns-clause-near g c = λ pos a.
    let a1 = agrees_before c.around_strings.ensures.stays.grows a in
    let a0 = agrees_before c.near_friends-friends.ensures.stays.grows a1 in
    let cells = (after pos c.args.board.now.moves).cells in
    let on = on_agreed _ _ (g.met.L.Look.sized c.args.board.now.look) a0 c.requires.on_board in
    let strings = rw c.near_friends-friends.ensures.stays.moves at (c.around_strings.ensures.near pos a) in
    AddsIn-trans (AddsIn-mono (c.near_friends-friends.ensures.near pos a1)
    (second_third pos.size cells c.args.target on))
    (AddsIn-mono strings (λ r h. around_friends pos.size cells c.args.target on c.near_friends-friends.result r
    (c.near_friends-friends.ensures.over pos a1) h))
