-- What was gathered are the candidates, on every position that agrees with what was seen.
use Rattle.std.proofs.Common.{◌||◌, ap, sym, ◌∙◌, arith}
use Rattle.std.specs.Cmp.{nat_cmp_total}
use Rattle.std.specs.FinSet as set
use Rattle.go_base.specs.Facts.{agrees_before, AddsIn-trans, AddsIn-mono}
use Rattle.go_base.specs.Surroundings.{is_last_liberty_of_enemy}
use Rattle.trial_board.specs.Trials.{after}
use Rattle.trial_board.proofs.WalkLemmas.{on_agreed}
use Rattle.trial_board.proofs.AfterLemmas.{size-after}
use Rattle.read_rules.proofs.StageLemmas.{candidate_plain, candidate_later}
use Rattle.read_moves.proofs.CandidateLemmas.{its_liberties, near_twice}
use Rattle.read_moves.proofs.stages.candidates.Goals as goal

-- the liberties of the target were found
pub later_candidates-requires-clause-liberties : goal.later_candidates-requires-clause-liberties
later_candidates-requires-clause-liberties g c = λ pos a.
    rw c.surroundings-liberties.ensures.stays.moves (c.surroundings-liberties.ensures.over pos a).0

-- the later candidates were joined
pub returns-then-has_later_candidates-clause-over : goal.returns-then-has_later_candidates-clause-over
returns-then-has_later_candidates-clause-over g c = λ pos a p.
    let here = after pos c.args.board.now.moves in
    let size = size-after pos c.args.board.now.moves in
    let libs = c.surroundings-liberties.result.liberties in
    let last = c.surroundings-liberties.result.last_liberties in
    let later = c.later_candidates.result in
    let it = c.surroundings-liberties.ensures.over pos (agrees_before c.later_candidates.ensures.stays.grows a) in
    let found = rw c.surroundings-liberties.ensures.stays.moves at (c.later_candidates.ensures.over pos a p) in
    let joined = ap (λ t. set.contains t p) c.join.ensures ∙ set.contains-union nat_cmp_total last libs p in
    candidate_later c.args.turn here p libs last
    (its_liberties here pos.size c.args.turn.target libs size it.0)
    (it.1 p ∙ ap (λ n. is_last_liberty_of_enemy n here.cells c.args.turn.target p) (sym size))
    (set.contains c.join-then-has_later_candidates.new.self p) (set.contains later p) found
    (ap (λ t. set.contains t p) c.join-then-has_later_candidates.ensures
    ∙ set.contains-union nat_cmp_total c.join.new.self later p ∙ ap (λ y. y || set.contains later p) joined)

-- there are no later candidates
pub returns-else-has_later_candidates-clause-over : goal.returns-else-has_later_candidates-clause-over
returns-else-has_later_candidates-clause-over g c = λ pos a p.
    let here = after pos c.args.board.now.moves in
    let size = size-after pos c.args.board.now.moves in
    let libs = c.surroundings-liberties.result.liberties in
    let last = c.surroundings-liberties.result.last_liberties in
    let it = c.surroundings-liberties.ensures.over pos a in
    candidate_plain c.args.turn here p libs last
    (its_liberties here pos.size c.args.turn.target libs size it.0)
    (it.1 p ∙ ap (λ n. is_last_liberty_of_enemy n here.cells c.args.turn.target p) (sym size))
    (set.contains c.join.new.self p)
    (sym c.has_later_candidates.ensures ∙ c.if-has_later_candidates.false)
    (ap (λ t. set.contains t p) c.join.ensures ∙ set.contains-union nat_cmp_total last libs p)

-- each look is where candidates are looked for
pub returns-then-has_later_candidates-clause-near : goal.returns-then-has_later_candidates-clause-near
returns-then-has_later_candidates-clause-near g c = λ pos a.
    let here = after pos c.args.board.now.moves in
    let a1 = agrees_before c.later_candidates.ensures.stays.grows a in
    let on = on_agreed _ _ (g.met.L.Look.sized c.args.board.now.look)
    (agrees_before c.surroundings-liberties.ensures.stays.grows a1) c.requires.on_board in
    AddsIn-trans (AddsIn-mono (c.surroundings-liberties.ensures.near pos a1)
    (near_twice pos.size here.cells c.args.turn.target on))
    (rw c.surroundings-liberties.ensures.stays.moves at (c.later_candidates.ensures.near pos a))

-- if there are none, only the target's surroundings are looked at
pub returns-else-has_later_candidates-clause-near : goal.returns-else-has_later_candidates-clause-near
returns-else-has_later_candidates-clause-near g c = λ pos a.
    let here = after pos c.args.board.now.moves in
    let on = on_agreed _ _ (g.met.L.Look.sized c.args.board.now.look)
    (agrees_before c.surroundings-liberties.ensures.stays.grows a) c.requires.on_board in
    AddsIn-mono (c.surroundings-liberties.ensures.near pos a) (near_twice pos.size here.cells c.args.turn.target on)

-- the position shown is one of those that agree
pub returns-then-has_later_candidates-clause-answer : goal.returns-then-has_later_candidates-clause-answer
returns-then-has_later_candidates-clause-answer g c =
    grind (
      arith,
      returns-then-has_later_candidates-clause-over g c (g.L.Look.shows c.args.board.now.look),
      c.later_candidates.ensures.stays.shown,
      c.surroundings-liberties.ensures.stays.shown,
    )

-- if there are no later candidates, what was gathered are the candidates on the position shown
pub returns-else-has_later_candidates-clause-answer : goal.returns-else-has_later_candidates-clause-answer
returns-else-has_later_candidates-clause-answer g c =
    grind (
      arith,
      returns-else-has_later_candidates-clause-over g c (g.L.Look.shows c.args.board.now.look),
      c.surroundings-liberties.ensures.stays.shown,
    )
