use Rattle.std.proofs.Common.{ap, sym, ◌∙◌, subst, arith}
use Rattle.std.proofs.lemmas.Int.{ints}
use Rattle.go_rules.specs.Transform.{IsNear}
use Rattle.spiral.specs.Spiral.{offset_at}
use Rattle.spiral.proofs.Indexes.{offsets_near}
use Rattle.spiral.proofs.Places.{near_by_parts, moved_by}
use Rattle.dfa_match.specs.Steps.{step_by}
use Rattle.dfa_match.proofs.StepLists.{steps_none, steps_more, offset_at-zero, offset_by_its_parts}
use Rattle.dfa_match.proofs.steps.add_steps.Goals as goal

-- at first no step was added, and the first offset leads nowhere
pub offsets-init : goal.offsets-init
offsets-init c = grind (arith, offset_at-zero, steps_none)

-- the offset with the index is near
pub apply-requires : goal.apply-requires
apply-requires c = grind (arith, near_by_parts c.offsets.by, offsets_near c.offsets.index c.offsets-test.true, ints)

-- so the next one can be found
pub following-by-requires : goal.following-by-requires
following-by-requires c = near_by_parts c.offsets.by _ _
    (subst IsNear (sym (c.offsets.invariant.by c.offsets-test.true)) (offsets_near c.offsets.index c.offsets-test.true))
    (omega (arith, ints)) (omega (arith, ints))

-- one step more
pub offsets-preserved : goal.offsets-preserved
offsets-preserved c = record {
  by = λ more. c.following-by.ensures c.offsets.index more
      (offset_by_its_parts c.offsets.by _ _ (offset_at c.offsets.index) (c.offsets.invariant.by c.offsets-test.true)
      (omega (arith, ints)) (omega (arith, ints)));
  added = steps_more c.args.t c.offsets.index c.args.steps.now.items c.offsets.steps.items c.push.new.self.items
      c.step_of.result c.offsets.invariant.added c.in_ok-push.ensures.items
      (λ few. c.step_of.ensures.value ∙ ap step_by (moved_by c.args.t (offset_at c.offsets.index) c.offsets.by
      c.apply.result _ _ (c.offsets.invariant.by c.offsets-test.true) (omega (arith, ints)) (omega (arith, ints))
      c.apply.ensures.value)) c.step_of.ensures.bound;
}
