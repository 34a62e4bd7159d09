use Rattle.std.proofs.Common.{ℕ, ◌≡◌, ◌<◌, ◌≤◌, false, ap, sym, ◌∙◌, arith}
use Rattle.go_rules.specs.Below.{set_below}
use Rattle.go_rules.proofs.Sets.{set_below-none}
use Rattle.go_base.specs.AmongFacts.{is_fact_at}
use Rattle.go_base.proofs.About.{set_below-skip, set_below-next, points_with_facts}
use Rattle.go_base.proofs.facts.Facts.points.Goals as goal

-- no point is below 0
pub loop-q-init : goal.loop-q-init
loop-q-init c = record { within = omega arith; come = c.new-points.ensures ∙ set_below-none _ }

-- the next point came
pub loop-q-preserved : goal.loop-q-preserved
loop-q-preserved c = grind (arith, set_below-next)

-- no point is left
pub returns : goal.returns
returns c =
    let f = c.args.self.now in
    let next = c.loop-q.next in
    let end = c.points-end.result in
    let none : (r : ℕ) → next ≤ r → r < end → is_fact_at f r ≡ false =
    λ r l m. sym (c.about-about.ensures r) ∙ c.in_default.ensures.none r l m in
    points_with_facts f c.loop-q.points
    (c.loop-q.invariant.come
    ∙ set_below-skip (is_fact_at f) next end c.loop-q.invariant.within none
    ∙ ap (λ n. set_below n (is_fact_at f)) c.points-end.ensures.value)
