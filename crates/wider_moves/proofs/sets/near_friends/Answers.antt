-- The stones next to the liberties that are not of the target's string are its near friends.
use Rattle.std.proofs.Common.{◌*◌, ◌<◌, sym, subst, ◌∙◌}
use Rattle.go_rules.specs.Position.{BoardState}
use Rattle.go_base.specs.Facts.{agrees_before, AddsIn-trans, AddsIn-mono}
use Rattle.trial_board.proofs.WalkLemmas.{on_agreed}
use Rattle.trial_board.specs.Trials.{after}
use Rattle.wider_rules.proofs.SetLemmas.{friend_is}
use Rattle.wider_moves.proofs.NearLemmas.{liberty_on, self_second, first_second, around_liberties}
use Rattle.wider_moves.proofs.sets.near_friends.Goals as goal

-- the liberties are on the board, whose size the looks keep
pub sides_of-friends-requires : goal.sides_of-friends-requires
sides_of-friends-requires g c = λ l h.
    let shown = g.L.Look.shows c.args.board.now.look in
    subst (λ (pos : BoardState). l < pos.size * pos.size)
    (sym (c.string-stones.ensures.stays.shown ∙ c.cell-cell.ensures.stays.shown))
    (liberty_on shown.size (after shown c.args.board.now.moves).cells c.args.target c.requires.on_board
    c.args.liberties.now l (c.requires.liberties shown (g.met.L.Look.holds c.args.board.now.look)) h)

-- what was gathered are the near friends
pub returns-clause-over : goal.returns-clause-over
returns-clause-over g c = λ pos a q.
    let a2 = agrees_before c.sides_of-friends.ensures.stays.grows a in
    let a1 = agrees_before c.string-stones.ensures.stays.grows a2 in
    let a0 = agrees_before c.cell-cell.ensures.stays.grows a1 in
    let m1 = c.cell-cell.ensures.stays.moves in
    let m2 = c.string-stones.ensures.stays.moves ∙ m1 in
    let its = rw m1 at (c.string-stones.ensures.over pos a2) in
    let came = rw m2 at (c.sides_of-friends.ensures.over pos a q) in
    let on = on_agreed _ _ (g.met.L.Look.sized c.args.board.now.look) a0 c.requires.on_board in
    friend_is pos.size (after pos c.args.board.now.moves).cells c.args.target c.cell-cell.result q c.args.liberties.now
    c.string-stones.result.stones c.sides_of-friends.result c.difference.result on (c.cell-cell.ensures.over pos a1)
    (c.requires.liberties pos a0) its.0 came c.difference.ensures

-- each look is in the second area
pub returns-clause-near : goal.returns-clause-near
returns-clause-near g c = λ pos a.
    let a2 = agrees_before c.sides_of-friends.ensures.stays.grows a in
    let a1 = agrees_before c.string-stones.ensures.stays.grows a2 in
    let a0 = agrees_before c.cell-cell.ensures.stays.grows a1 in
    let m1 = c.cell-cell.ensures.stays.moves in
    let m2 = c.string-stones.ensures.stays.moves ∙ m1 in
    let cells = (after pos c.args.board.now.moves).cells in
    let on = on_agreed _ _ (g.met.L.Look.sized c.args.board.now.look) a0 c.requires.on_board in
    let string = rw m1 at (c.string-stones.ensures.near pos a2) in
    let sides = rw m2 at (c.sides_of-friends.ensures.near pos a) in
    AddsIn-trans (AddsIn-mono c.cell-cell.ensures.near (self_second pos.size cells c.args.target on))
    (AddsIn-trans (AddsIn-mono string (first_second pos.size cells c.args.target on))
    (AddsIn-mono sides (λ r h. around_liberties pos.size cells c.args.target on c.args.liberties.now r
    (c.requires.liberties pos a0) h)))
