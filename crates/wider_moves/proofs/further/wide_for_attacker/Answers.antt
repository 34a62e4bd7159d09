-- Net and Link were gathered.
use Rattle.std.proofs.Common.{arith}
use Rattle.go_base.specs.Facts.{agrees_before, AddsIn-trans, AddsIn-mono}
use Rattle.trial_board.proofs.WalkLemmas.{on_agreed}
use Rattle.trial_board.specs.Trials.{after}
use Rattle.wider_rules.proofs.FurtherPlaces.{second_third}
use Rattle.wider_rules.proofs.SetLemmas.{attacker_wide}
use Rattle.wider_moves.proofs.NearLemmas.{liberty_on, around_liberties}
use Rattle.wider_moves.proofs.further.wide_for_attacker.Goals as goal

-- the liberties are on the board
pub net-found-requires : goal.net-found-requires
net-found-requires g c = λ l h.
    let shown = g.L.Look.shows c.args.board.now.look in
    liberty_on shown.size (after shown c.args.board.now.moves).cells c.args.target c.requires.on_board
    c.args.liberties.now l (c.requires.liberties shown (g.met.L.Look.holds c.args.board.now.look)) h

-- the looks for the net made no move
pub linked_strings-linked-requires-clause-liberties : goal.linked_strings-linked-requires-clause-liberties
linked_strings-linked-requires-clause-liberties g c = grind arith

-- what was joined are the two sets
pub returns-clause-over : goal.returns-clause-over
returns-clause-over g c = λ pos a p.
    let a1 = agrees_before c.linked_strings-linked.ensures.stays.grows a in
    let m1 = c.net-found.ensures.stays.moves in
    attacker_wide pos.size (after pos c.args.board.now.moves).cells c.args.target p c.net-found.result
    c.linked_strings-linked.result.liberties c.join.new.self c.join.ensures
    (c.net-found.ensures.over pos a1 c.args.target
    (c.requires.liberties pos (agrees_before c.net-found.ensures.stays.grows a1)) p)
    (rw m1 at (c.linked_strings-linked.ensures.liberties pos a p))

-- each look is in the third area
pub returns-clause-near : goal.returns-clause-near
returns-clause-near g c = λ pos a.
    let a1 = agrees_before c.linked_strings-linked.ensures.stays.grows a in
    let a0 = agrees_before c.net-found.ensures.stays.grows a1 in
    let m1 = c.net-found.ensures.stays.moves in
    let cells = (after pos c.args.board.now.moves).cells in
    let on = on_agreed _ _ (g.met.L.Look.sized c.args.board.now.look) a0 c.requires.on_board in
    AddsIn-trans (AddsIn-mono (c.net-found.ensures.near pos a1)
    (λ r h. second_third pos.size cells c.args.target on r
    (around_liberties pos.size cells c.args.target on c.args.liberties.now r (c.requires.liberties pos a0) h)))
    (rw m1 at (c.linked_strings-linked.ensures.near pos a))
