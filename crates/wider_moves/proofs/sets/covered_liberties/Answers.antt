-- The liberties of the enemies next to the target that have two or three are those that Cover goes by.
use Rattle.std.proofs.Common.{◌*◌, sym, ◌∙◌}
use Rattle.std.proofs.lemmas.Bool.{and_parts, ltb-true}
use Rattle.go_base.specs.Facts.{agrees_before, AddsIn-trans, AddsIn-mono}
use Rattle.trial_board.proofs.WalkLemmas.{on_agreed}
use Rattle.trial_board.specs.Trials.{after}
use Rattle.wider_rules.proofs.StringLemmas.{has_enemy}
use Rattle.wider_rules.proofs.SetLemmas.{covered_is}
use Rattle.wider_moves.proofs.NearLemmas.{first_second, around_enemies}
use Rattle.wider_moves.proofs.sets.covered_liberties.Goals as goal

-- the enemies next to the target are on the board
pub around_strings-covered-requires : goal.around_strings-covered-requires
around_strings-covered-requires g c = λ q h.
    let look = c.string-enemies.new.self.look in
    let shown = g.L.Look.shows look in
    let foes = (c.string-enemies.ensures.over shown (g.met.L.Look.holds look)).2 in
    let is = has_enemy shown.size (after shown c.args.board.now.moves).cells c.args.target q c.string-enemies.result.enemies
    foes in
    ltb-true q (shown.size * shown.size) (and_parts _ _ (sym is ∙ h)).0

-- their liberties are those
pub returns-clause-over : goal.returns-clause-over
returns-clause-over g c = λ pos a l.
    let a1 = agrees_before c.around_strings-covered.ensures.stays.grows a in
    let came = rw c.string-enemies.ensures.stays.moves at (c.around_strings-covered.ensures.liberties pos a l) in
    came ∙ covered_is pos.size (after pos c.args.board.now.moves).cells c.args.target l c.string-enemies.result.enemies
    (c.string-enemies.ensures.over pos a1).2

-- each look is in the second area
pub returns-clause-near : goal.returns-clause-near
returns-clause-near g c = λ pos a.
    let a1 = agrees_before c.around_strings-covered.ensures.stays.grows a in
    let a0 = agrees_before c.string-enemies.ensures.stays.grows a1 in
    let cells = (after pos c.args.board.now.moves).cells in
    let on = on_agreed _ _ (g.met.L.Look.sized c.args.board.now.look) a0 c.requires in
    let strings = rw c.string-enemies.ensures.stays.moves at (c.around_strings-covered.ensures.near pos a) in
    AddsIn-trans (AddsIn-mono (c.string-enemies.ensures.near pos a1) (first_second pos.size cells c.args.target on))
    (AddsIn-mono strings (λ r h. around_enemies pos.size cells c.args.target on c.string-enemies.result.enemies r
    (c.string-enemies.ensures.over pos a1).2 h))
