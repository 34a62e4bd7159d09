-- The enemy stones next to cramped points came, point by point.
use Rattle.std.proofs.Common.{◌≡◌, ◌*◌, ◌&&◌, ◌||◌, ℕ, ◌∙◌, refl, arith}
use Rattle.std.specs.FinSet as set
use Rattle.go_base.specs.Facts.{agrees_before}
use Rattle.trial_board.specs.Overlays.{neighbourhood_twice}
use Rattle.trial_board.specs.Trials.{after}
use Rattle.trial_board.proofs.WalkLemmas.{Walked-next, on_agreed}
use Rattle.wider_rules.specs.Cramped.{foe_of, is_cramped}
use Rattle.wider_rules.specs.Strings.{holds_next}
use Rattle.wider_moves.proofs.AddLemmas.{AddsBelow-next, AddsBelow-all, added_to_none}
use Rattle.wider_moves.proofs.ApproachLemmas.{near_twice}
use Rattle.wider_moves.proofs.approach.beside_cramped.Goals as goal

-- nothing came
pub loop-l-init : goal.loop-l-init
loop-l-init g c = grind arith

-- what is next to the next point came if it is cramped
pub loop-l-preserved : goal.loop-l-preserved
loop-l-preserved g c =
    let l = c.in-Some.l in
    let first = c.in-Some.ensures.some in
    let one = c.add_in_the_way in
    let own = c.args.own in
    Walked-next (λ s b. neighbourhood_twice s b.cells l) (λ s b. (r : ℕ) → set.contains one.new.found r
    ≡ (set.contains c.loop-l.found r || (is_cramped s b.cells own l && holds_next s b.cells (foe_of own) l r)))
    c.loop-l.invariant
    (record { stays = one.ensures.stays; near = one.ensures.near; over = one.ensures.over })
    (λ pos a i. near_twice pos.size (after pos c.args.board.now.moves).cells (set.contains c.args.points.now) l first.2)
    (λ pos a i came.
    let here = after pos c.args.board.now.moves in
    AddsBelow-next (λ (k r : ℕ). is_cramped pos.size here.cells own k && holds_next pos.size here.cells (foe_of own) k r)
    c.args.points.now set.empty c.loop-l.next l c.loop-l.found one.new.found first.0 i first.2 first.3 came)

-- no point is left
pub returns-clause-over : goal.returns-clause-over
returns-clause-over g c = λ pos a r.
    let i = c.loop-l.invariant in
    let here = after pos c.args.board.now.moves in
    AddsBelow-all (λ (k r : ℕ). is_cramped pos.size here.cells c.args.own k
    && holds_next pos.size here.cells (foe_of c.args.own) k r) c.args.points.now set.empty
    c.loop-l.next (pos.size * pos.size) c.loop-l.found (i.over pos a) c.in_default.ensures.none
    (λ k h. on_agreed _ _ (g.met.L.Look.sized c.args.board.now.look) (agrees_before i.stays.grows a) (c.requires k h)) r
    ∙ added_to_none set.empty r _ refl
