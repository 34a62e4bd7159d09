-- The points that the plays leave came, liberty by liberty.
use Rattle.std.proofs.Common.{◌≡◌, ◌*◌, ◌||◌, ℕ}
use Rattle.std.proofs.lemmas.Bool.{and_from}
use Rattle.std.specs.FinSet as set
use Rattle.go_rules.proofs.Counts.{any_below_from}
use Rattle.go_base.specs.Facts.{agrees_before}
use Rattle.trial_board.specs.Overlays.{neighbourhood_twice}
use Rattle.trial_board.specs.Trials.{after}
use Rattle.trial_board.proofs.WalkLemmas.{Walked-none, Walked-next, on_agreed}
use Rattle.wider_moves.proofs.AddLemmas.{AddsBelow-none, AddsBelow-next, AddsBelow-all}
use Rattle.read_moves.specs.Steps.{is_left}
use Rattle.read_moves.proofs.moves.add_backfilling.Goals as goal

-- no point was visited
pub loop-l-init : goal.loop-l-init
loop-l-init g c = Walked-none (λ pos. AddsBelow-none (is_left (after pos c.args.board.now.moves) c.args.c)
    c.args.points.now c.args.found.now)

-- what the play at the next point leaves came
pub loop-l-preserved : goal.loop-l-preserved
loop-l-preserved g c =
    let l = c.in-Some.l in
    let first = c.in-Some.ensures.some in
    let one = c.add_backfilling_at in
    Walked-next (λ s b. neighbourhood_twice s b.cells l) (λ s b. (p : ℕ) → set.contains one.new.found p
    ≡ (set.contains c.loop-l.found p || is_left b c.args.c l p)) c.loop-l.invariant
    (record { stays = one.ensures.stays; near = one.ensures.near; over = one.ensures.over })
    (λ pos a i r h. any_below_from (pos.size * pos.size) _ l
    (on_agreed _ _ (g.met.L.Look.sized c.args.board.now.look) a (c.requires l first.2)) (and_from _ _ first.2 h))
    (λ pos a i came. AddsBelow-next (is_left (after pos c.args.board.now.moves) c.args.c) c.args.points.now
    c.args.found.now c.loop-l.from l c.loop-l.found one.new.found first.0 i first.2 first.3 came)

-- no point is left
pub returns-clause-over : goal.returns-clause-over
returns-clause-over g c = λ pos a.
    let i = c.loop-l.invariant in
    AddsBelow-all (is_left (after pos c.args.board.now.moves) c.args.c) c.args.points.now c.args.found.now
    c.loop-l.from (pos.size * pos.size) c.loop-l.found (i.over pos a) c.in_default.ensures.none
    (λ k h. on_agreed _ _ (g.met.L.Look.sized c.args.board.now.look) (agrees_before i.stays.grows a) (c.requires k h))
