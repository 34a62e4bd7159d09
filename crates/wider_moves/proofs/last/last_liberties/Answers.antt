-- The last liberties came, point by point.
use Rattle.std.proofs.Common.{◌≡◌, ◌*◌, ◌||◌, ℕ, ◌∙◌, refl, arith}
use Rattle.std.specs.FinSet as set
use Rattle.go_rules.specs.Neighbourhood.{neighbourhood_of}
use Rattle.go_base.specs.Facts.{agrees_before}
use Rattle.go_base.specs.Surroundings.{is_only_liberty}
use Rattle.go_base.specs.Views.{alone}
use Rattle.go_base.proofs.PointNeighbourhoods.{close_point}
use Rattle.trial_board.specs.Trials.{after}
use Rattle.trial_board.proofs.WalkLemmas.{Walked-next, on_agreed}
use Rattle.wider_moves.proofs.AddLemmas.{AddsBelow-next, AddsBelow-all, added_to_none}
use Rattle.wider_moves.proofs.last.last_liberties.Goals as goal

-- nothing came
pub loop-r-init : goal.loop-r-init
loop-r-init g c = grind arith

-- the one liberty of the next point's string came
pub loop-r-preserved : goal.loop-r-preserved
loop-r-preserved g c =
    let r = c.in-Some.r in
    let first = c.in-Some.ensures.some in
    let one = c.add_last_liberty in
    Walked-next (λ s b. neighbourhood_of s b.cells (alone r)) (λ s b. (p : ℕ) → set.contains one.new.found p
    ≡ (set.contains c.loop-r.found p || is_only_liberty s b.cells r p)) c.loop-r.invariant
    (record { stays = one.ensures.stays; near = one.ensures.near; over = one.ensures.over })
    (λ pos a i. close_point pos.size (after pos c.args.board.now.moves).cells (set.contains c.args.points.now) r
    first.2)
    (λ pos a i came. AddsBelow-next (is_only_liberty pos.size (after pos c.args.board.now.moves).cells)
    c.args.points.now set.empty c.loop-r.next r c.loop-r.found one.new.found first.0 i first.2 first.3 came)

-- no point is left
pub returns-clause-over : goal.returns-clause-over
returns-clause-over g c = λ pos a p.
    let i = c.loop-r.invariant in
    AddsBelow-all (is_only_liberty pos.size (after pos c.args.board.now.moves).cells) c.args.points.now set.empty
    c.loop-r.next (pos.size * pos.size) c.loop-r.found (i.over pos a) c.in_default.ensures.none
    (λ k h. on_agreed _ _ (g.met.L.Look.sized c.args.board.now.look) (agrees_before i.stays.grows a) (c.requires k h)) p
    ∙ added_to_none set.empty p _ refl
