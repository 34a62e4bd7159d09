-- What stands around the enemies next to the target that have few liberties is Beside and the allies.
use Rattle.std.proofs.Common.{◌*◌, sym, ◌∙◌}
use Rattle.std.proofs.lemmas.Bool.{and_parts, ltb-true}
use Rattle.go_base.specs.Facts.{agrees_before, AddsIn-trans, AddsIn-mono}
use Rattle.trial_board.proofs.WalkLemmas.{on_agreed}
use Rattle.trial_board.specs.Trials.{after}
use Rattle.wider_rules.proofs.StringLemmas.{has_enemy}
use Rattle.wider_rules.proofs.SetLemmas.{beside_is, ally_is}
use Rattle.wider_moves.proofs.NearLemmas.{first_second, around_enemies}
use Rattle.wider_moves.proofs.sets.weak_enemies.Goals as goal

-- the enemies next to the target are on the board
pub around_strings-weak-requires : goal.around_strings-weak-requires
around_strings-weak-requires g c = λ q h.
    let look = c.string-stones.new.self.look in
    let shown = g.L.Look.shows look in
    let foes = (c.string-stones.ensures.over shown (g.met.L.Look.holds look)).2 in
    let is = has_enemy shown.size (after shown c.args.board.now.moves).cells c.args.target q
    c.string-stones.result.enemies foes in
    ltb-true q (shown.size * shown.size) (and_parts _ _ (sym is ∙ h)).0

-- their liberties are Beside
pub returns-clause-liberties : goal.returns-clause-liberties
returns-clause-liberties g c = λ pos a p.
    let a1 = agrees_before c.around_strings-weak.ensures.stays.grows a in
    let came = rw c.string-stones.ensures.stays.moves at (c.around_strings-weak.ensures.liberties pos a p) in
    came ∙ beside_is pos.size (after pos c.args.board.now.moves).cells c.args.target c.args.most p
    c.string-stones.result.enemies (c.string-stones.ensures.over pos a1).2

-- the enemies next to them that are not of the target's string are the allies
pub returns-clause-allies : goal.returns-clause-allies
returns-clause-allies g c = λ pos a r.
    let a1 = agrees_before c.around_strings-weak.ensures.stays.grows a in
    let a0 = agrees_before c.string-stones.ensures.stays.grows a1 in
    let on = on_agreed _ _ (g.met.L.Look.sized c.args.board.now.look) a0 c.requires in
    let its = c.string-stones.ensures.over pos a1 in
    let came = rw c.string-stones.ensures.stays.moves at (c.around_strings-weak.ensures.enemies pos a r) in
    ally_is pos.size (after pos c.args.board.now.moves).cells c.args.target c.args.most r c.string-stones.result.enemies
    c.string-stones.result.stones c.around_strings-weak.result.enemies c.difference.result on its.2 its.0 came
    c.difference.ensures

-- each look is in the second area
pub returns-clause-near : goal.returns-clause-near
returns-clause-near g c = λ pos a.
    let a1 = agrees_before c.around_strings-weak.ensures.stays.grows a in
    let a0 = agrees_before c.string-stones.ensures.stays.grows a1 in
    let cells = (after pos c.args.board.now.moves).cells in
    let on = on_agreed _ _ (g.met.L.Look.sized c.args.board.now.look) a0 c.requires in
    let strings = rw c.string-stones.ensures.stays.moves at (c.around_strings-weak.ensures.near pos a) in
    AddsIn-trans (AddsIn-mono (c.string-stones.ensures.near pos a1) (first_second pos.size cells c.args.target on))
    (AddsIn-mono strings (λ r h. around_enemies pos.size cells c.args.target on c.string-stones.result.enemies r
    (c.string-stones.ensures.over pos a1).2 h))
