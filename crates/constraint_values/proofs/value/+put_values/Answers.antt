-- The value of each part that is needed, behind those of the parts below it.
use Rattle.std.proofs.Common.{◌≡◌, ◌++◌, ◌*◌, ◌∙◌, ap, sym, true, w64, arith}
use Rattle.std.proofs.lemmas.Int.{to_z-of_z}
use Rattle.std.proofs.lemmas.Result.{on_ok_weaker}
use Rattle.cons_eval.specs.Bounds.{IsConstraint, most, most_leaves}
use Rattle.cons_eval.specs.Meanings.{Meanings, are_placed}
use Rattle.cons_eval.specs.Values.{value_of}
use Rattle.cons_eval.specs.Asking.{needs_right}
use Rattle.cons_eval.proofs.CallCounts.{stays_on}
use Rattle.cons_eval.proofs.Parts.{IsPartOf, part_of_not, part_of_neg, left_part, right_part}
use Rattle.cons_eval.proofs.ExpressionValues.{bits_within, all_small, opposite_fits}
use Rattle.constraint_values.specs.Parts.{values_in}
use Rattle.constraint_values.proofs.PartSteps.{value_fits, ok_value, ok_small, not_step, neg_step, sides_step}
use Rattle.constraint_values.proofs.PartSteps.{left_step}
use Rattle.constraint_values.proofs.PartValues.{values_of_num, values_of_call, values_of_not, values_of_neg}
use Rattle.constraint_values.proofs.PartValues.{values_of_sides, values_of_left}
use Rattle.constraint_values.proofs.value.+put_values.Goals as goal

-- what stands behind a `!` is smaller and keeps what is required
pub put_values-requires : goal.put_values-requires
put_values-requires g t c κs within =
    grind (arith, part_of_not c.deref.result.now c.args.expr.now c.in-Not.e c.deref.ensures c.in-Not.is)

-- what stands behind a `-` is smaller and keeps what is required
pub put_values-requires-in-Neg : goal.put_values-requires-in-Neg
put_values-requires-in-Neg g t c κs within =
    grind (arith, part_of_neg c.deref-in-Neg.result.now c.args.expr.now c.in-Neg.e c.deref-in-Neg.ensures c.in-Neg.is)

-- the left side is smaller and keeps what is required
pub put_values-requires-in-Bin : goal.put_values-requires-in-Bin
put_values-requires-in-Bin g t c κs within =
    let part : IsPartOf c.deref-in-Bin.result.now c.args.expr.now =
    left_part c.deref-in-Bin.result.now c.args.expr.now c.in-Bin.op c.in-Bin.a c.in-Bin.b c.deref-in-Bin.ensures
    c.in-Bin.is in
    let con : IsConstraint c.deref-in-Bin.result.now = part.constraint c.requires.constraint in
    let place : are_placed (g.E.Env.view c.args.env.now).meanings c.deref-in-Bin.result.now ≡ true =
    part.placed (g.E.Env.view c.args.env.now).meanings c.requires.placed in
    (omega (arith, part.smaller, c.decreases), (within, (con, place)))

-- the right side is smaller and keeps what is required, by the same meanings
pub put_values-requires-then-needs_right : goal.put_values-requires-then-needs_right
put_values-requires-then-needs_right g t c κs within =
    let part : IsPartOf c.deref-then-needs_right.result.now c.args.expr.now =
    right_part c.deref-then-needs_right.result.now c.args.expr.now c.in-Bin.op c.in-Bin.a c.in-Bin.b
    c.deref-then-needs_right.ensures c.in-Bin.is in
    let con : IsConstraint c.deref-then-needs_right.result.now = part.constraint c.requires.constraint in
    let place : are_placed (g.E.Env.view c.put_values-in-Bin.new.env).meanings c.deref-then-needs_right.result.now
    ≡ true =
    ap (λ (m : Meanings). are_placed m c.deref-then-needs_right.result.now) c.in_ok-left-in-Bin.ensures.stays.meanings
    ∙ part.placed (g.E.Env.view c.args.env.now).meanings c.requires.placed in
    (omega (arith, part.smaller, c.decreases), (within, (con, place)))

-- the opposite of a small value fits
pub overflow_sub-inner : goal.overflow_sub-inner
overflow_sub-inner g t c = grind (arith, part_of_neg, opposite_fits, value_fits, all_small)

-- the right side goes on from where the left one led
pub returns-in_err-right-in-Bin-clause-stays : goal.returns-in_err-right-in-Bin-clause-stays
returns-in_err-right-in-Bin-clause-stays g t c = grind (arith, stays_on)

-- the left side is small
pub joined-requires-clause-left_small : goal.joined-requires-clause-left_small
joined-requires-clause-left_small g t c =
    let part =
    left_part c.deref-in-Bin.result.now c.args.expr.now c.in-Bin.op c.in-Bin.a c.in-Bin.b c.deref-in-Bin.ensures
    c.in-Bin.is in
    let con = part.constraint c.requires.constraint in
    let small = c.in_ok-left-in-Bin.ensures.small in
    let x = c.in_ok-left-in-Bin.left in
    bits_within (most_leaves * most) x (value_fits c.deref-in-Bin.result.now x con small)
    (all_small c.deref-in-Bin.result.now x con small)

-- the right side is small
pub joined-requires-clause-right_small : goal.joined-requires-clause-right_small
joined-requires-clause-right_small g t c =
    let part =
    right_part c.deref-then-needs_right.result.now c.args.expr.now c.in-Bin.op c.in-Bin.a c.in-Bin.b
    c.deref-then-needs_right.ensures c.in-Bin.is in
    let con = part.constraint c.requires.constraint in
    let small = c.in_ok-right-in-Bin.ensures.small in
    let y = c.in_ok-right-in-Bin.right in
    bits_within (most_leaves * most) y (value_fits c.deref-then-needs_right.result.now y con small)
    (all_small c.deref-then-needs_right.result.now y con small)

-- a number is one part
pub returns-in-Num-clause-put : goal.returns-in-Num-clause-put
returns-in-Num-clause-put g t c = grind (arith, on_ok_weaker, values_of_num)

-- a call is one part
pub returns-in-Call-clause-put : goal.returns-in-Call-clause-put
returns-in-Call-clause-put g t c = grind (arith, on_ok_weaker, values_of_call)

-- the value behind a `!`
pub returns-in_ok-inner-in-Not-clause-value : goal.returns-in_ok-inner-in-Not-clause-value
returns-in_ok-inner-in-Not-clause-value g t c =
    let part = part_of_not c.deref.result.now c.args.expr.now c.in-Not.e c.deref.ensures c.in-Not.is in
    let step = not_step (g.E.Env.view c.args.env.now).meanings c.args.expr.now c.deref.result.now c.in-Not.e
    c.in_ok-inner-in-Not.inner c.deref.ensures
    (part.constraint c.requires.constraint) c.in_ok-inner-in-Not.ensures.value c.in_ok-inner-in-Not.ensures.small
    c.worth_of.result c.counts_as_true.result c.in-Not.is (record { sfits = c.worth_of.type_inv })
    c.counts_as_true.ensures c.worth_of.ensures in
    ok_value (g.E.Env.view c.args.env.now).meanings c.args.expr.now c.put.result _ step c.put.ensures.value

-- a test is small
pub returns-in_ok-inner-in-Not-clause-small : goal.returns-in_ok-inner-in-Not-clause-small
returns-in_ok-inner-in-Not-clause-small g t c =
    let part = part_of_not c.deref.result.now c.args.expr.now c.in-Not.e c.deref.ensures c.in-Not.is in
    let step = not_step (g.E.Env.view c.args.env.now).meanings c.args.expr.now c.deref.result.now c.in-Not.e
    c.in_ok-inner-in-Not.inner c.deref.ensures
    (part.constraint c.requires.constraint) c.in_ok-inner-in-Not.ensures.value c.in_ok-inner-in-Not.ensures.small
    c.worth_of.result c.counts_as_true.result c.in-Not.is (record { sfits = c.worth_of.type_inv })
    c.counts_as_true.ensures c.worth_of.ensures in
    ok_small (g.E.Env.view c.args.env.now).meanings c.args.expr.now c.put.result _ step c.put.ensures.value

-- a `!` comes behind what stands behind it
pub returns-in_ok-inner-in-Not-clause-put : goal.returns-in_ok-inner-in-Not-clause-put
returns-in_ok-inner-in-Not-clause-put g t c =
    let part = part_of_not c.deref.result.now c.args.expr.now c.in-Not.e c.deref.ensures c.in-Not.is in
    let step = not_step (g.E.Env.view c.args.env.now).meanings c.args.expr.now c.deref.result.now c.in-Not.e
    c.in_ok-inner-in-Not.inner c.deref.ensures
    (part.constraint c.requires.constraint) c.in_ok-inner-in-Not.ensures.value c.in_ok-inner-in-Not.ensures.small
    c.worth_of.result c.counts_as_true.result c.in-Not.is (record { sfits = c.worth_of.type_inv })
    c.counts_as_true.ensures c.worth_of.ensures in
    on_ok_weaker c.put.result
    (λ put. values_of_not (g.E.Env.view c.args.env.now).meanings c.args.expr.now c.deref.result.now c.in-Not.e _
    c.args.values.now.items
    c.put_values.new.values.items c.put.new.values.items c.deref.ensures c.in-Not.is step.value
    c.in_ok-inner-in-Not.ensures.put put)
    c.put.ensures.put

-- the value behind a `-`
pub returns-in_ok-inner-in-Neg-clause-value : goal.returns-in_ok-inner-in-Neg-clause-value
returns-in_ok-inner-in-Neg-clause-value g t c =
    let part = part_of_neg c.deref-in-Neg.result.now c.args.expr.now c.in-Neg.e c.deref-in-Neg.ensures c.in-Neg.is in
    let step = neg_step (g.E.Env.view c.args.env.now).meanings c.args.expr.now c.deref-in-Neg.result.now c.in-Neg.e
    c.in_ok-inner-in-Neg.inner
    c.deref-in-Neg.ensures (part.constraint c.requires.constraint) c.in_ok-inner-in-Neg.ensures.value
    c.in_ok-inner-in-Neg.ensures.small c.in-Neg.is in
    ok_value (g.E.Env.view c.args.env.now).meanings c.args.expr.now c.put-in-Neg.result _ step
    c.put-in-Neg.ensures.value

-- the opposite is small
pub returns-in_ok-inner-in-Neg-clause-small : goal.returns-in_ok-inner-in-Neg-clause-small
returns-in_ok-inner-in-Neg-clause-small g t c =
    let part = part_of_neg c.deref-in-Neg.result.now c.args.expr.now c.in-Neg.e c.deref-in-Neg.ensures c.in-Neg.is in
    let step = neg_step (g.E.Env.view c.args.env.now).meanings c.args.expr.now c.deref-in-Neg.result.now c.in-Neg.e
    c.in_ok-inner-in-Neg.inner
    c.deref-in-Neg.ensures (part.constraint c.requires.constraint) c.in_ok-inner-in-Neg.ensures.value
    c.in_ok-inner-in-Neg.ensures.small c.in-Neg.is in
    ok_small (g.E.Env.view c.args.env.now).meanings c.args.expr.now c.put-in-Neg.result _ step
    c.put-in-Neg.ensures.value

-- a `-` comes behind what stands behind it
pub returns-in_ok-inner-in-Neg-clause-put : goal.returns-in_ok-inner-in-Neg-clause-put
returns-in_ok-inner-in-Neg-clause-put g t c =
    let part = part_of_neg c.deref-in-Neg.result.now c.args.expr.now c.in-Neg.e c.deref-in-Neg.ensures c.in-Neg.is in
    let step = neg_step (g.E.Env.view c.args.env.now).meanings c.args.expr.now c.deref-in-Neg.result.now c.in-Neg.e
    c.in_ok-inner-in-Neg.inner
    c.deref-in-Neg.ensures (part.constraint c.requires.constraint) c.in_ok-inner-in-Neg.ensures.value
    c.in_ok-inner-in-Neg.ensures.small c.in-Neg.is in
    on_ok_weaker c.put-in-Neg.result
    (λ put. values_of_neg (g.E.Env.view c.args.env.now).meanings c.args.expr.now c.deref-in-Neg.result.now c.in-Neg.e
    _ c.args.values.now.items
    c.put_values-in-Neg.new.values.items c.put-in-Neg.new.values.items c.deref-in-Neg.ensures c.in-Neg.is step.value
    c.in_ok-inner-in-Neg.ensures.put put)
    c.put-in-Neg.ensures.put

-- the value of two sides
pub returns-in_ok-right-in-Bin-clause-value : goal.returns-in_ok-right-in-Bin-clause-value
returns-in_ok-right-in-Bin-clause-value g t c =
    let left =
    left_part c.deref-in-Bin.result.now c.args.expr.now c.in-Bin.op c.in-Bin.a c.in-Bin.b c.deref-in-Bin.ensures
    c.in-Bin.is in
    let right =
    right_part c.deref-then-needs_right.result.now c.args.expr.now c.in-Bin.op c.in-Bin.a c.in-Bin.b
    c.deref-then-needs_right.ensures c.in-Bin.is in
    let on = c.in_ok-left-in-Bin.ensures.stays.meanings in
    let value_right = c.in_ok-right-in-Bin.ensures.value
    ∙ ap (λ (m : Meanings). value_of m c.deref-then-needs_right.result.now) on in
    let step = sides_step (g.E.Env.view c.args.env.now).meanings c.args.expr.now c.deref-in-Bin.result.now c.in-Bin.op
    c.in-Bin.a c.in-Bin.b
    c.in_ok-left-in-Bin.left c.deref-in-Bin.ensures c.in-Bin.is (left.constraint c.requires.constraint)
    c.in_ok-left-in-Bin.ensures.value c.in_ok-left-in-Bin.ensures.small c.deref-then-needs_right.result.now
    c.in_ok-right-in-Bin.right c.joined.result c.deref-then-needs_right.ensures
    (right.constraint c.requires.constraint) value_right c.in_ok-right-in-Bin.ensures.small
    (record { sfits = c.joined.type_inv }) c.joined.ensures in
    ok_value (g.E.Env.view c.args.env.now).meanings c.args.expr.now c.put-then-needs_right.result _ step
    c.put-then-needs_right.ensures.value

-- two sides are as small as both together
pub returns-in_ok-right-in-Bin-clause-small : goal.returns-in_ok-right-in-Bin-clause-small
returns-in_ok-right-in-Bin-clause-small g t c =
    let left =
    left_part c.deref-in-Bin.result.now c.args.expr.now c.in-Bin.op c.in-Bin.a c.in-Bin.b c.deref-in-Bin.ensures
    c.in-Bin.is in
    let right =
    right_part c.deref-then-needs_right.result.now c.args.expr.now c.in-Bin.op c.in-Bin.a c.in-Bin.b
    c.deref-then-needs_right.ensures c.in-Bin.is in
    let on = c.in_ok-left-in-Bin.ensures.stays.meanings in
    let value_right = c.in_ok-right-in-Bin.ensures.value
    ∙ ap (λ (m : Meanings). value_of m c.deref-then-needs_right.result.now) on in
    let step = sides_step (g.E.Env.view c.args.env.now).meanings c.args.expr.now c.deref-in-Bin.result.now c.in-Bin.op
    c.in-Bin.a c.in-Bin.b
    c.in_ok-left-in-Bin.left c.deref-in-Bin.ensures c.in-Bin.is (left.constraint c.requires.constraint)
    c.in_ok-left-in-Bin.ensures.value c.in_ok-left-in-Bin.ensures.small c.deref-then-needs_right.result.now
    c.in_ok-right-in-Bin.right c.joined.result c.deref-then-needs_right.ensures
    (right.constraint c.requires.constraint) value_right c.in_ok-right-in-Bin.ensures.small
    (record { sfits = c.joined.type_inv }) c.joined.ensures in
    ok_small (g.E.Env.view c.args.env.now).meanings c.args.expr.now c.put-then-needs_right.result _ step
    c.put-then-needs_right.ensures.value

-- an operator comes behind its sides
pub returns-in_ok-right-in-Bin-clause-put : goal.returns-in_ok-right-in-Bin-clause-put
returns-in_ok-right-in-Bin-clause-put g t c =
    let left =
    left_part c.deref-in-Bin.result.now c.args.expr.now c.in-Bin.op c.in-Bin.a c.in-Bin.b c.deref-in-Bin.ensures
    c.in-Bin.is in
    let right =
    right_part c.deref-then-needs_right.result.now c.args.expr.now c.in-Bin.op c.in-Bin.a c.in-Bin.b
    c.deref-then-needs_right.ensures c.in-Bin.is in
    let on = c.in_ok-left-in-Bin.ensures.stays.meanings in
    let value_right = c.in_ok-right-in-Bin.ensures.value
    ∙ ap (λ (m : Meanings). value_of m c.deref-then-needs_right.result.now) on in
    let step = sides_step (g.E.Env.view c.args.env.now).meanings c.args.expr.now c.deref-in-Bin.result.now c.in-Bin.op
    c.in-Bin.a c.in-Bin.b
    c.in_ok-left-in-Bin.left c.deref-in-Bin.ensures c.in-Bin.is (left.constraint c.requires.constraint)
    c.in_ok-left-in-Bin.ensures.value c.in_ok-left-in-Bin.ensures.small c.deref-then-needs_right.result.now
    c.in_ok-right-in-Bin.right c.joined.result c.deref-then-needs_right.ensures
    (right.constraint c.requires.constraint) value_right c.in_ok-right-in-Bin.ensures.small
    (record { sfits = c.joined.type_inv }) c.joined.ensures in
    let same = to_z-of_z w64 c.in_ok-left-in-Bin.left
    (value_fits c.deref-in-Bin.result.now c.in_ok-left-in-Bin.left (left.constraint c.requires.constraint)
    c.in_ok-left-in-Bin.ensures.small) in
    let needed = ap (needs_right c.in-Bin.op) (sym same) ∙ (sym c.needs_right.ensures ∙ c.if-needs_right.true) in
    on_ok_weaker c.put-then-needs_right.result
    (λ put. values_of_sides (g.E.Env.view c.args.env.now).meanings c.args.expr.now c.deref-in-Bin.result.now
    c.deref-then-needs_right.result.now
    c.in-Bin.op c.in-Bin.a c.in-Bin.b c.in_ok-left-in-Bin.left _ c.args.values.now.items
    c.put_values-in-Bin.new.values.items c.put_values-then-needs_right.new.values.items
    c.put-then-needs_right.new.values.items c.deref-in-Bin.ensures c.deref-then-needs_right.ensures c.in-Bin.is
    c.in_ok-left-in-Bin.ensures.value needed step.value c.in_ok-left-in-Bin.ensures.put
    (c.in_ok-right-in-Bin.ensures.put ∙ ap (λ (m : Meanings). c.put_values-in-Bin.new.values.items
    ++ values_in m c.deref-then-needs_right.result.now) on) put)
    c.put-then-needs_right.ensures.put

-- the right side goes on from where the left one led
pub returns-in_ok-right-in-Bin-clause-stays : goal.returns-in_ok-right-in-Bin-clause-stays
returns-in_ok-right-in-Bin-clause-stays g t c = grind (arith, stays_on)

-- the value of the left side alone
pub returns-in_ok-put_none-in-Bin-clause-value : goal.returns-in_ok-put_none-in-Bin-clause-value
returns-in_ok-put_none-in-Bin-clause-value g t c =
    let left =
    left_part c.deref-in-Bin.result.now c.args.expr.now c.in-Bin.op c.in-Bin.a c.in-Bin.b c.deref-in-Bin.ensures
    c.in-Bin.is in
    let step = left_step (g.E.Env.view c.args.env.now).meanings c.args.expr.now c.deref-in-Bin.result.now c.in-Bin.op
    c.in-Bin.a c.in-Bin.b
    c.in_ok-left-in-Bin.left c.deref-in-Bin.ensures c.in-Bin.is (left.constraint c.requires.constraint)
    c.in_ok-left-in-Bin.ensures.value c.in_ok-left-in-Bin.ensures.small c.worth_of-else-needs_right.result
    c.counts_as_true-else-needs_right.result (record { sfits = c.worth_of-else-needs_right.type_inv })
    c.counts_as_true-else-needs_right.ensures c.worth_of-else-needs_right.ensures
    (sym c.needs_right.ensures ∙ c.if-needs_right.false) in
    ok_value (g.E.Env.view c.args.env.now).meanings c.args.expr.now c.put-else-needs_right.result _ step
    c.put-else-needs_right.ensures.value

-- a test is small
pub returns-in_ok-put_none-in-Bin-clause-small : goal.returns-in_ok-put_none-in-Bin-clause-small
returns-in_ok-put_none-in-Bin-clause-small g t c =
    let left =
    left_part c.deref-in-Bin.result.now c.args.expr.now c.in-Bin.op c.in-Bin.a c.in-Bin.b c.deref-in-Bin.ensures
    c.in-Bin.is in
    let step = left_step (g.E.Env.view c.args.env.now).meanings c.args.expr.now c.deref-in-Bin.result.now c.in-Bin.op
    c.in-Bin.a c.in-Bin.b
    c.in_ok-left-in-Bin.left c.deref-in-Bin.ensures c.in-Bin.is (left.constraint c.requires.constraint)
    c.in_ok-left-in-Bin.ensures.value c.in_ok-left-in-Bin.ensures.small c.worth_of-else-needs_right.result
    c.counts_as_true-else-needs_right.result (record { sfits = c.worth_of-else-needs_right.type_inv })
    c.counts_as_true-else-needs_right.ensures c.worth_of-else-needs_right.ensures
    (sym c.needs_right.ensures ∙ c.if-needs_right.false) in
    ok_small (g.E.Env.view c.args.env.now).meanings c.args.expr.now c.put-else-needs_right.result _ step
    c.put-else-needs_right.ensures.value

-- an operator comes behind its left side and the parts that are not needed
pub returns-in_ok-put_none-in-Bin-clause-put : goal.returns-in_ok-put_none-in-Bin-clause-put
returns-in_ok-put_none-in-Bin-clause-put g t c =
    let left =
    left_part c.deref-in-Bin.result.now c.args.expr.now c.in-Bin.op c.in-Bin.a c.in-Bin.b c.deref-in-Bin.ensures
    c.in-Bin.is in
    let step = left_step (g.E.Env.view c.args.env.now).meanings c.args.expr.now c.deref-in-Bin.result.now c.in-Bin.op
    c.in-Bin.a c.in-Bin.b
    c.in_ok-left-in-Bin.left c.deref-in-Bin.ensures c.in-Bin.is (left.constraint c.requires.constraint)
    c.in_ok-left-in-Bin.ensures.value c.in_ok-left-in-Bin.ensures.small c.worth_of-else-needs_right.result
    c.counts_as_true-else-needs_right.result (record { sfits = c.worth_of-else-needs_right.type_inv })
    c.counts_as_true-else-needs_right.ensures c.worth_of-else-needs_right.ensures
    (sym c.needs_right.ensures ∙ c.if-needs_right.false) in
    let same = to_z-of_z w64 c.in_ok-left-in-Bin.left
    (value_fits c.deref-in-Bin.result.now c.in_ok-left-in-Bin.left (left.constraint c.requires.constraint)
    c.in_ok-left-in-Bin.ensures.small) in
    let needless = ap (needs_right c.in-Bin.op) (sym same) ∙ (sym c.needs_right.ensures ∙ c.if-needs_right.false) in
    on_ok_weaker c.put-else-needs_right.result
    (λ put. values_of_left (g.E.Env.view c.args.env.now).meanings c.args.expr.now c.deref-in-Bin.result.now
    c.deref-else-needs_right.result.now
    c.in-Bin.op c.in-Bin.a c.in-Bin.b c.in_ok-left-in-Bin.left _ c.args.values.now.items
    c.put_values-in-Bin.new.values.items c.put_none.new.values.items c.put-else-needs_right.new.values.items
    c.deref-in-Bin.ensures c.deref-else-needs_right.ensures c.in-Bin.is c.in_ok-left-in-Bin.ensures.value needless
    step.value c.in_ok-left-in-Bin.ensures.put c.in_ok-put_none-in-Bin.ensures put)
    c.put-else-needs_right.ensures.put
