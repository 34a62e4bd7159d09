-- The liberties of the strings that a stone joins, but for its point, and its empty neighbours were gathered.
use Rattle.std.proofs.Common.{◌*◌, ℕ, sym, ap, ◌∙◌}
use Rattle.std.proofs.lemmas.Bool.{ltb-true}
use Rattle.go_base.specs.Facts.{agrees_before, same_size, AddsIn-trans, AddsIn-mono}
use Rattle.trial_board.proofs.WalkLemmas.{on_agreed}
use Rattle.trial_board.specs.Trials.{after}
use Rattle.wider_rules.proofs.SetLemmas.{next_on}
use Rattle.wider_moves.proofs.ApproachLemmas.{reached_is, neighbours_near, strings_near}
use Rattle.wider_moves.proofs.approach.reached.Goals as goal

-- the strings that it joins are on the board
pub around_strings-joined-requires : goal.around_strings-joined-requires
around_strings-joined-requires g c = λ q h.
    let look = c.neighbours_with-friends.new.board.look in
    let shown = g.L.Look.shows look in
    let is = c.neighbours_with-friends.ensures.over shown (g.met.L.Look.holds look) q in
    ltb-true q (shown.size * shown.size)
    (next_on shown.size (after shown c.args.board.now.moves).cells c.args.own c.args.l q (sym is ∙ h))

-- what was gathered is reached
pub returns-clause-over : goal.returns-clause-over
returns-clause-over g c = λ pos a x.
    let a2 = agrees_before c.add_sides.ensures.stays.grows a in
    let a1 = agrees_before c.around_strings-joined.ensures.stays.grows a2 in
    let a0 = agrees_before c.neighbours_with-friends.ensures.stays.grows a1 in
    let m1 = c.neighbours_with-friends.ensures.stays.moves in
    let m2 = c.around_strings-joined.ensures.stays.moves ∙ m1 in
    let size = sym (same_size (g.met.L.Look.sized c.args.board.now.look) a0) in
    let all = c.points-all.ensures.value ∙ ap (λ (n : ℕ). n * n) (c.size.ensures ∙ size) in
    reached_is pos.size (after pos c.args.board.now.moves).cells c.args.own c.args.l c.points-all.result x
    c.neighbours_with-friends.result c.around_strings-joined.result.liberties c.without-found.result _ all
    (c.neighbours_with-friends.ensures.over pos a1) (rw m1 at (c.around_strings-joined.ensures.liberties pos a2 x))
    c.without-found.ensures (rw m2 at (c.add_sides.ensures.over pos a x))

-- each look is near l
pub returns-clause-near : goal.returns-clause-near
returns-clause-near g c = λ pos a.
    let a2 = agrees_before c.add_sides.ensures.stays.grows a in
    let a1 = agrees_before c.around_strings-joined.ensures.stays.grows a2 in
    let a0 = agrees_before c.neighbours_with-friends.ensures.stays.grows a1 in
    let cells = (after pos c.args.board.now.moves).cells in
    let on = on_agreed _ _ (g.met.L.Look.sized c.args.board.now.look) a0 c.requires in
    let strings = rw c.neighbours_with-friends.ensures.stays.moves at (c.around_strings-joined.ensures.near pos a2) in
    let sides = neighbours_near pos.size cells c.args.l on in
    AddsIn-trans (AddsIn-mono (c.neighbours_with-friends.ensures.near pos a1) sides)
    (AddsIn-trans (AddsIn-mono strings (λ r h. strings_near pos.size cells c.args.l on c.args.own
    c.neighbours_with-friends.result r (c.neighbours_with-friends.ensures.over pos a1) h))
    (AddsIn-mono (c.add_sides.ensures.near pos a) sides))
