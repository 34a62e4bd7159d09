-- The neighbours came, point by point.
use Rattle.std.proofs.Common.{◌≡◌, ◌*◌, ◌||◌, ℕ}
use Rattle.std.proofs.lemmas.Bool.{and_from}
use Rattle.std.specs.FinSet as set
use Rattle.go_rules.proofs.Counts.{any_below_from}
use Rattle.go_base.specs.Facts.{agrees_before}
use Rattle.go_base.specs.Views.{neighbours_of}
use Rattle.trial_board.specs.Trials.{after}
use Rattle.trial_board.proofs.WalkLemmas.{Walked-none, Walked-next, on_agreed}
use Rattle.wider_rules.specs.Strings.{holds_next}
use Rattle.wider_moves.proofs.AddLemmas.{AddsBelow-none, AddsBelow-next, AddsBelow-all}
use Rattle.wider_moves.proofs.sides.add_sides_of.Goals as goal

-- no point was visited
pub loop-l-init : goal.loop-l-init
loop-l-init g c = Walked-none (λ pos. AddsBelow-none (holds_next pos.size (after pos c.args.board.now.moves).cells
    c.args.cell) c.args.points.now c.args.found.now)

-- the neighbours of the next point came
pub loop-l-preserved : goal.loop-l-preserved
loop-l-preserved g c =
    let l = c.in-Some.l in
    let first = c.in-Some.ensures.some in
    let one = c.add_sides in
    Walked-next (λ s b. neighbours_of s l) (λ s b. (p : ℕ) → set.contains one.new.found p
    ≡ (set.contains c.loop-l.found p || holds_next s b.cells c.args.cell l p)) c.loop-l.invariant
    (record { stays = one.ensures.stays; near = one.ensures.near; over = one.ensures.over })
    (λ pos a i r h. any_below_from (pos.size * pos.size) _ l
    (on_agreed _ _ (g.met.L.Look.sized c.args.board.now.look) a (c.requires l first.2)) (and_from _ _ first.2 h))
    (λ pos a i came. AddsBelow-next (holds_next pos.size (after pos c.args.board.now.moves).cells c.args.cell)
    c.args.points.now c.args.found.now c.loop-l.next l c.loop-l.found one.new.found first.0 i first.2 first.3 came)

-- no point is left
pub returns-clause-over : goal.returns-clause-over
returns-clause-over g c = λ pos a.
    let i = c.loop-l.invariant in
    AddsBelow-all (holds_next pos.size (after pos c.args.board.now.moves).cells c.args.cell) c.args.points.now
    c.args.found.now c.loop-l.next (pos.size * pos.size) c.loop-l.found (i.over pos a) c.in_default.ensures.none
    (λ k h. on_agreed _ _ (g.met.L.Look.sized c.args.board.now.look) (agrees_before i.stays.grows a) (c.requires k h))
