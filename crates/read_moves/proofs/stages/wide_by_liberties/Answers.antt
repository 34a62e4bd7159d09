-- What was gathered are the wide candidates by the liberties, on every position that agrees with what was seen.
use Rattle.std.proofs.Common.{◌≡◌, ◌<◌, ◌*◌, ℕ, true, ap, ◌∙◌, arith}
use Rattle.std.specs.FinSet as set
use Rattle.go_base.specs.Facts.{agrees_before, AddsIn-trans, AddsIn-mono}
use Rattle.trial_board.proofs.WalkLemmas.{on_agreed}
use Rattle.trial_board.specs.Trials.{after}
use Rattle.trial_board.proofs.AfterLemmas.{size-after}
use Rattle.read_rules.specs.Candidates.{attacker_of}
use Rattle.wider_moves.proofs.NearLemmas.{liberty_on}
use Rattle.read_moves.proofs.CandidateLemmas.{stated_found, near_self, near_liberties, near_plays}
use Rattle.read_moves.proofs.stages.wide_by_liberties.Given.{Over}
use Rattle.read_moves.proofs.stages.wide_by_liberties.Goals as goal
use Rattle.read_moves.proofs.stages.wide_by_liberties.Goals.{After-new-found}

-- the liberties are on the board
inside : (g : Over) (c : After-new-found g) (l : ℕ) → set.contains c.args.liberties.now l ≡ true
    → l < (g.L.Look.shows c.args.board.now.look).size * (g.L.Look.shows c.args.board.now.look).size
inside g c l h =
    let shown = g.L.Look.shows c.args.board.now.look in
    liberty_on shown.size (after shown c.args.board.now.moves).cells c.args.target c.requires.on_board
    c.args.liberties.now l (c.requires.liberties shown (g.met.L.Look.holds c.args.board.now.look)) h

-- the liberties are on the board
pub add_beside_few-requires : goal.add_beside_few-requires
add_beside_few-requires g c = inside g (goal.at.add_beside_few-requires g c).After-new-found

-- the liberties are on the board, whose size the looks beside them and at the target keep
pub add_backfilling-requires : goal.add_backfilling-requires
add_backfilling-requires g c = grind (arith, inside)

-- the neighbours and what the plays leave were gathered
pub returns-clause-over : goal.returns-clause-over
returns-clause-over g c = λ pos a p.
    let here = after pos c.args.board.now.moves in
    let a2 = agrees_before c.add_backfilling.ensures.stays.grows a in
    let a1 = agrees_before c.cell.ensures.stays.grows a2 in
    let m1 = c.add_beside_few.ensures.stays.moves in
    let m2 = c.cell.ensures.stays.moves ∙ m1 in
    stated_found here pos.size c.args.target p c.args.liberties.now c.new-found.result c.add_beside_few.new.found
    c.add_backfilling.new.found c.attacker_of-attacker.result (size-after pos c.args.board.now.moves)
    (c.requires.liberties pos (agrees_before c.add_beside_few.ensures.stays.grows a1)) c.new-found.ensures
    (c.attacker_of-attacker.ensures ∙ ap attacker_of (rw m1 at (c.cell.ensures.over pos a2)))
    (c.add_beside_few.ensures.over pos a1 p) (rw m2 at (c.add_backfilling.ensures.over pos a p))

-- each look is where candidates are looked for
pub returns-clause-near : goal.returns-clause-near
returns-clause-near g c = λ pos a.
    let here = after pos c.args.board.now.moves in
    let libs = c.args.liberties.now in
    let a2 = agrees_before c.add_backfilling.ensures.stays.grows a in
    let a1 = agrees_before c.cell.ensures.stays.grows a2 in
    let a0 = agrees_before c.add_beside_few.ensures.stays.grows a1 in
    let its = c.requires.liberties pos a0 in
    let on = on_agreed _ _ (g.met.L.Look.sized c.args.board.now.look) a0 c.requires.on_board in
    let m2 = c.cell.ensures.stays.moves ∙ c.add_beside_few.ensures.stays.moves in
    let plays = rw m2 at (c.add_backfilling.ensures.near pos a) in
    AddsIn-trans (AddsIn-mono (c.add_beside_few.ensures.near pos a1)
    (λ r h. near_liberties pos.size here.cells c.args.target on libs r its h))
    (AddsIn-trans (AddsIn-mono c.cell.ensures.near (near_self pos.size here.cells c.args.target on))
    (AddsIn-mono plays (λ r h. near_plays pos.size here.cells c.args.target on libs r its h)))
