-- The strings of the other colour whose one liberty is l were looked for.
use Rattle.std.proofs.Common.{◌*◌, sym, ◌∙◌}
use Rattle.std.proofs.lemmas.Bool.{ltb-true}
use Rattle.go_base.specs.Facts.{agrees_before, AddsIn-trans, AddsIn-mono}
use Rattle.trial_board.proofs.WalkLemmas.{on_agreed}
use Rattle.trial_board.specs.Trials.{after}
use Rattle.wider_rules.proofs.SetLemmas.{next_on}
use Rattle.wider_moves.proofs.ApproachLemmas.{takes_is, neighbours_near, strings_near}
use Rattle.wider_moves.proofs.approach.takes_some.Goals as goal

-- these are on the board
pub last_liberties-requires : goal.last_liberties-requires
last_liberties-requires g c = λ r h.
    let look = c.neighbours_with-foes.new.board.look in
    let shown = g.L.Look.shows look in
    let is = c.neighbours_with-foes.ensures.over shown (g.met.L.Look.holds look) r in
    ltb-true r (shown.size * shown.size)
    (next_on shown.size (after shown c.args.board.now.moves).cells c.foe_of.result c.args.l r (sym is ∙ h))

-- one was found where something is taken
pub returns-clause-over : goal.returns-clause-over
returns-clause-over g c = λ pos a.
    let a1 = agrees_before c.last_liberties.ensures.stays.grows a in
    let came = rw c.neighbours_with-foes.ensures.stays.moves at (c.last_liberties.ensures.over pos a c.args.l) in
    takes_is pos.size (after pos c.args.board.now.moves).cells c.args.own c.args.l c.foe_of.result
    c.neighbours_with-foes.result c.has.result c.foe_of.ensures (c.neighbours_with-foes.ensures.over pos a1)
    (c.has.ensures ∙ came)

-- each look is near l
pub returns-clause-near : goal.returns-clause-near
returns-clause-near g c = λ pos a.
    let a1 = agrees_before c.last_liberties.ensures.stays.grows a in
    let a0 = agrees_before c.neighbours_with-foes.ensures.stays.grows a1 in
    let cells = (after pos c.args.board.now.moves).cells in
    let on = on_agreed _ _ (g.met.L.Look.sized c.args.board.now.look) a0 c.requires in
    let strings = rw c.neighbours_with-foes.ensures.stays.moves at (c.last_liberties.ensures.near pos a) in
    AddsIn-trans (AddsIn-mono (c.neighbours_with-foes.ensures.near pos a1)
    (neighbours_near pos.size cells c.args.l on))
    (AddsIn-mono strings (λ r h. strings_near pos.size cells c.args.l on c.foe_of.result c.neighbours_with-foes.result r
    (c.neighbours_with-foes.ensures.over pos a1) h))
