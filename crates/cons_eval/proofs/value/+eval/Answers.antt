-- The value of an expression, from those of its parts.
use Rattle.std.proofs.Common.{◌≡◌, ℕ, ◌*◌, ◌∙◌, ap, sym, subst, Bool, false, true, not, ℤ, pos, ◌-ℤ◌, w64, of_z, to_z}
use Rattle.std.proofs.Common.{arith}
use Rattle.std.proofs.lemmas.Int.{to_z-of_z}
use Rattle.pat_types.specs.Labels.{leaf_count}
use Rattle.cons_eval.specs.Bounds.{IsConstraint, IsWithin, most, most_leaves}
use Rattle.cons_eval.specs.Meanings.{Meanings, are_placed}
use Rattle.cons_eval.specs.Values.{worth, is_so, joined_value, value_of}
use Rattle.cons_eval.specs.Asking.{needs_right, asks}
use Rattle.cons_eval.specs.Questions.{counted, readings_of}
use Rattle.cons_eval.proofs.CallCounts.{stays_same, stays_on}
use Rattle.cons_eval.proofs.Parts.{IsPartOf, part_of_not, part_of_neg, left_part, right_part}
use Rattle.cons_eval.proofs.ExpressionValues.{bits_within, all_small, opposite_fits, placed_call, num_value}
use Rattle.cons_eval.proofs.ExpressionValues.{value_of_call, value_of_not, value_of_neg, value_of_sides, value_of_left}
use Rattle.cons_eval.proofs.ExpressionValues.{test_small, num_small, call_small, neg_small, sides_small, asks_call}
use Rattle.cons_eval.proofs.ExpressionValues.{asks_not, asks_neg, asks_left, asks_right}
use Rattle.cons_eval.proofs.ReadingNumbers.{counted_on, readings_of_num, readings_of_call, readings_of_not}
use Rattle.cons_eval.proofs.ReadingNumbers.{readings_of_neg, readings_of_sides, readings_of_left}
use Rattle.cons_eval.proofs.value.+eval.Goals as goal

-- the arguments are placed
pub call-requires : goal.call-requires
call-requires g t c =
    placed_call (g.E.Env.view c.args.env.now).meanings c.args.expr.now c.in-Call.function c.in-Call.args
    c.as_slice.result.now c.in-Call.is c.as_slice.ensures c.requires.placed

-- what stands behind a `!` is smaller and keeps what is required
pub eval-requires : goal.eval-requires
eval-requires g t c κs within =
    let part : IsPartOf c.deref.result.now c.args.expr.now =
    part_of_not c.deref.result.now c.args.expr.now c.in-Not.e c.deref.ensures c.in-Not.is in
    let con : IsConstraint c.deref.result.now = part.constraint c.requires.constraint in
    let place : are_placed (g.E.Env.view c.args.env.now).meanings c.deref.result.now ≡ true =
    part.placed (g.E.Env.view c.args.env.now).meanings c.requires.placed in
    (omega (arith, part.smaller, c.decreases), (within, (con, place)))

-- what stands behind a `-` is smaller and keeps what is required
pub eval-requires-in-Neg : goal.eval-requires-in-Neg
eval-requires-in-Neg g t c κs within =
    let part : IsPartOf c.deref-in-Neg.result.now c.args.expr.now =
    part_of_neg c.deref-in-Neg.result.now c.args.expr.now c.in-Neg.e c.deref-in-Neg.ensures c.in-Neg.is in
    let con : IsConstraint c.deref-in-Neg.result.now = part.constraint c.requires.constraint in
    let place : are_placed (g.E.Env.view c.args.env.now).meanings c.deref-in-Neg.result.now ≡ true =
    part.placed (g.E.Env.view c.args.env.now).meanings c.requires.placed in
    (omega (arith, part.smaller, c.decreases), (within, (con, place)))

-- the left side is smaller and keeps what is required
pub eval-left-requires : goal.eval-left-requires
eval-left-requires g t c κs within =
    let part : IsPartOf c.deref-in-Bin.result.now c.args.expr.now =
    left_part c.deref-in-Bin.result.now c.args.expr.now c.in-Bin.op c.in-Bin.a c.in-Bin.b c.deref-in-Bin.ensures
    c.in-Bin.is in
    let con : IsConstraint c.deref-in-Bin.result.now = part.constraint c.requires.constraint in
    let place : are_placed (g.E.Env.view c.args.env.now).meanings c.deref-in-Bin.result.now ≡ true =
    part.placed (g.E.Env.view c.args.env.now).meanings c.requires.placed in
    (omega (arith, part.smaller, c.decreases), (within, (con, place)))

-- the right side is smaller and keeps what is required, by the same meanings
pub eval-requires-then-needs_right : goal.eval-requires-then-needs_right
eval-requires-then-needs_right g t c κs within =
    let part : IsPartOf c.deref-then-needs_right.result.now c.args.expr.now =
    right_part c.deref-then-needs_right.result.now c.args.expr.now c.in-Bin.op c.in-Bin.a c.in-Bin.b
    c.deref-then-needs_right.ensures c.in-Bin.is in
    let con : IsConstraint c.deref-then-needs_right.result.now = part.constraint c.requires.constraint in
    let place : are_placed (g.E.Env.view c.eval-left.new.env).meanings c.deref-then-needs_right.result.now ≡ true =
    ap (λ (m : Meanings). are_placed m c.deref-then-needs_right.result.now) c.eval-left.ensures.stays.meanings
    ∙ part.placed (g.E.Env.view c.args.env.now).meanings c.requires.placed in
    (omega (arith, part.smaller, c.decreases), (within, (con, place)))

-- the opposite of a small value fits
pub overflow_sub-result : goal.overflow_sub-result
overflow_sub-result g t c =
    let part =
    part_of_neg c.deref-in-Neg.result.now c.args.expr.now c.in-Neg.e c.deref-in-Neg.ensures c.in-Neg.is in
    opposite_fits c.eval-in-Neg.result (record { sfits = c.eval-in-Neg.type_inv })
    (all_small c.deref-in-Neg.result.now c.eval-in-Neg.result (part.constraint c.requires.constraint)
    c.eval-in-Neg.ensures.small)

-- the left side is small
pub joined-requires-clause-left_small : goal.joined-requires-clause-left_small
joined-requires-clause-left_small g t c =
    let part =
    left_part c.deref-in-Bin.result.now c.args.expr.now c.in-Bin.op c.in-Bin.a c.in-Bin.b c.deref-in-Bin.ensures
    c.in-Bin.is in
    bits_within (most_leaves * most) c.eval-left.result (record { sfits = c.eval-left.type_inv })
    (all_small c.deref-in-Bin.result.now c.eval-left.result (part.constraint c.requires.constraint)
    c.eval-left.ensures.small)

-- the right side is small
pub joined-requires-clause-right_small : goal.joined-requires-clause-right_small
joined-requires-clause-right_small g t c =
    let part =
    right_part c.deref-then-needs_right.result.now c.args.expr.now c.in-Bin.op c.in-Bin.a c.in-Bin.b
    c.deref-then-needs_right.ensures c.in-Bin.is in
    bits_within (most_leaves * most) c.eval-then-needs_right.result
    (record { sfits = c.eval-then-needs_right.type_inv })
    (all_small c.deref-then-needs_right.result.now c.eval-then-needs_right.result
    (part.constraint c.requires.constraint) c.eval-then-needs_right.ensures.small)

-- a number is its value
pub returns-in-Num-clause-value : goal.returns-in-Num-clause-value
returns-in-Num-clause-value g t c =
    to_z-of_z w64 c.from.result (record { sfits = c.from.type_inv })
    ∙ (c.from.ensures ∙ num_value (g.E.Env.view c.args.env.now).meanings c.args.expr.now c.in-Num.n c.in-Num.is)

-- a number is small
pub returns-in-Num-clause-small : goal.returns-in-Num-clause-small
returns-in-Num-clause-small g t c =
    bits_within (leaf_count c.args.expr.now * most) c.from.result (record { sfits = c.from.type_inv })
    (subst (λ (x : ℤ). IsWithin (leaf_count c.args.expr.now * most) x) (sym c.from.ensures)
    (num_small c.args.expr.now c.in-Num.n c.in-Num.is c.requires.constraint))

-- a number changes nothing
pub returns-in-Num-clause-stays : goal.returns-in-Num-clause-stays
returns-in-Num-clause-stays g t c = stays_same (g.E.Env.view c.args.env.now)

-- the value of a call
pub returns-in-Call-clause-value : goal.returns-in-Call-clause-value
returns-in-Call-clause-value g t c =
    to_z-of_z w64 c.call.result (record { sfits = c.call.type_inv })
    ∙ (c.call.ensures.value
    ∙ value_of_call (g.E.Env.view c.args.env.now).meanings c.args.expr.now c.in-Call.function c.in-Call.args
    c.as_slice.result.now c.in-Call.is c.as_slice.ensures)

-- a call is small
pub returns-in-Call-clause-small : goal.returns-in-Call-clause-small
returns-in-Call-clause-small g t c =
    bits_within (leaf_count c.args.expr.now * most) c.call.result (record { sfits = c.call.type_inv })
    (call_small c.args.expr.now c.in-Call.function c.in-Call.args c.call.result c.in-Call.is c.call.ensures.small)

-- a call of a function that reads nothing asks for nothing
pub returns-in-Call-clause-quiet : goal.returns-in-Call-clause-quiet
returns-in-Call-clause-quiet g t c quiet =
    c.call.ensures.quiet
    (asks_call
    (g.E.Env.view c.args.env.now).meanings c.args.expr.now c.in-Call.function c.in-Call.args c.in-Call.is quiet)

-- the value behind a `!`
pub returns-in-Not-clause-value : goal.returns-in-Not-clause-value
returns-in-Not-clause-value g t c =
    to_z-of_z w64 c.worth_of.result (record { sfits = c.worth_of.type_inv })
    ∙ (c.worth_of.ensures
    ∙ (ap (λ (b : Bool). worth (not b)) (c.counts_as_true.ensures
    ∙ ap is_so (to_z-of_z w64 c.eval.result (record { sfits = c.eval.type_inv })))
    ∙ value_of_not (g.E.Env.view c.args.env.now).meanings c.args.expr.now c.deref.result.now c.in-Not.e c.eval.result
    c.deref.ensures c.in-Not.is c.eval.ensures.value))

-- a test is small
pub returns-in-Not-clause-small : goal.returns-in-Not-clause-small
returns-in-Not-clause-small g t c =
    bits_within (leaf_count c.args.expr.now * most) c.worth_of.result (record { sfits = c.worth_of.type_inv })
    (subst (λ (x : ℤ). IsWithin (leaf_count c.args.expr.now * most) x) (sym c.worth_of.ensures)
    (test_small c.args.expr.now (not c.counts_as_true.result)))

-- what stands behind a `!` asks for all that the whole does
pub returns-in-Not-clause-quiet : goal.returns-in-Not-clause-quiet
returns-in-Not-clause-quiet g t c quiet =
    c.eval.ensures.quiet
    (asks_not (g.E.Env.view c.args.env.now).meanings c.args.expr.now c.deref.result.now c.in-Not.e c.deref.ensures
    c.in-Not.is quiet)

-- the value behind a `-`
pub returns-in-Neg-clause-value : goal.returns-in-Neg-clause-value
returns-in-Neg-clause-value g t c =
    to_z-of_z w64 (pos 0 -ℤ to_z w64 (of_z w64 c.eval-in-Neg.result)) (overflow_sub-result g t c)
    ∙ (ap (λ (x : ℤ). pos 0 -ℤ x) (to_z-of_z w64 c.eval-in-Neg.result (record { sfits = c.eval-in-Neg.type_inv }))
    ∙ value_of_neg (g.E.Env.view c.args.env.now).meanings c.args.expr.now c.deref-in-Neg.result.now c.in-Neg.e
    c.eval-in-Neg.result c.deref-in-Neg.ensures c.in-Neg.is c.eval-in-Neg.ensures.value)

-- the opposite is small
pub returns-in-Neg-clause-small : goal.returns-in-Neg-clause-small
returns-in-Neg-clause-small g t c =
    bits_within (leaf_count c.args.expr.now * most) (pos 0 -ℤ to_z w64 (of_z w64 c.eval-in-Neg.result))
    (overflow_sub-result g t c)
    (subst (λ (x : ℤ). IsWithin (leaf_count c.args.expr.now * most) (pos 0 -ℤ x))
    (sym (to_z-of_z w64 c.eval-in-Neg.result (record { sfits = c.eval-in-Neg.type_inv })))
    (neg_small c.args.expr.now c.deref-in-Neg.result.now c.in-Neg.e c.eval-in-Neg.result c.deref-in-Neg.ensures
    c.in-Neg.is c.eval-in-Neg.ensures.small))

-- what stands behind a `-` asks for all that the whole does
pub returns-in-Neg-clause-quiet : goal.returns-in-Neg-clause-quiet
returns-in-Neg-clause-quiet g t c quiet =
    c.eval-in-Neg.ensures.quiet
    (asks_neg (g.E.Env.view c.args.env.now).meanings c.args.expr.now c.deref-in-Neg.result.now c.in-Neg.e
    c.deref-in-Neg.ensures c.in-Neg.is quiet)

-- the value of two sides
pub returns-then-needs_right-clause-value : goal.returns-then-needs_right-clause-value
returns-then-needs_right-clause-value g t c =
    to_z-of_z w64 c.joined.result (record { sfits = c.joined.type_inv })
    ∙ (c.joined.ensures
    ∙ (ap (λ (x : ℤ). joined_value c.in-Bin.op x (to_z w64 (of_z w64 c.eval-then-needs_right.result)))
    (to_z-of_z w64 c.eval-left.result (record { sfits = c.eval-left.type_inv }))
    ∙ (ap (joined_value c.in-Bin.op c.eval-left.result)
    (to_z-of_z w64 c.eval-then-needs_right.result (record { sfits = c.eval-then-needs_right.type_inv }))
    ∙ value_of_sides (g.E.Env.view c.args.env.now).meanings c.args.expr.now c.deref-in-Bin.result.now
    c.deref-then-needs_right.result.now c.in-Bin.op c.in-Bin.a c.in-Bin.b c.eval-left.result
    c.eval-then-needs_right.result c.deref-in-Bin.ensures c.deref-then-needs_right.ensures c.in-Bin.is
    c.eval-left.ensures.value
    (c.eval-then-needs_right.ensures.value
    ∙ ap (λ (m : Meanings). value_of m c.deref-then-needs_right.result.now) c.eval-left.ensures.stays.meanings))))

-- two sides are as small as both together
pub returns-then-needs_right-clause-small : goal.returns-then-needs_right-clause-small
returns-then-needs_right-clause-small g t c =
    bits_within (leaf_count c.args.expr.now * most) c.joined.result (record { sfits = c.joined.type_inv })
    (subst (λ (x : ℤ). IsWithin (leaf_count c.args.expr.now * most) x) (sym c.joined.ensures)
    (sides_small c.args.expr.now c.deref-in-Bin.result.now c.deref-then-needs_right.result.now c.in-Bin.op c.in-Bin.a
    c.in-Bin.b (to_z w64 (of_z w64 c.eval-left.result)) (to_z w64 (of_z w64 c.eval-then-needs_right.result))
    c.deref-in-Bin.ensures c.deref-then-needs_right.ensures c.in-Bin.is
    (bits_within (leaf_count c.deref-in-Bin.result.now * most) c.eval-left.result
    (record { sfits = c.eval-left.type_inv }) c.eval-left.ensures.small)
    (bits_within (leaf_count c.deref-then-needs_right.result.now * most) c.eval-then-needs_right.result
    (record { sfits = c.eval-then-needs_right.type_inv }) c.eval-then-needs_right.ensures.small)))

-- the right side goes on from where the left one led
pub returns-then-needs_right-clause-stays : goal.returns-then-needs_right-clause-stays
returns-then-needs_right-clause-stays g t c =
    stays_on (g.E.Env.view c.args.env.now) (g.E.Env.view c.eval-left.new.env)
    (g.E.Env.view c.eval-then-needs_right.new.env) c.eval-left.ensures.stays c.eval-then-needs_right.ensures.stays

-- both sides ask for nothing where the whole does not
pub returns-then-needs_right-clause-quiet : goal.returns-then-needs_right-clause-quiet
returns-then-needs_right-clause-quiet g t c quiet =
    let same = to_z-of_z w64 c.eval-left.result (record { sfits = c.eval-left.type_inv }) in
    let needed : needs_right c.in-Bin.op c.eval-left.result ≡ true =
    ap (needs_right c.in-Bin.op) (sym same) ∙ (sym c.needs_right.ensures ∙ c.if-needs_right.true) in
    c.eval-then-needs_right.ensures.quiet
    (ap (λ (m : Meanings). asks m c.deref-then-needs_right.result.now) c.eval-left.ensures.stays.meanings
    ∙ asks_right (g.E.Env.view c.args.env.now).meanings c.args.expr.now c.deref-in-Bin.result.now
    c.deref-then-needs_right.result.now c.in-Bin.op c.in-Bin.a c.in-Bin.b c.eval-left.result c.deref-in-Bin.ensures
    c.deref-then-needs_right.ensures c.in-Bin.is c.eval-left.ensures.value needed quiet)
    ∙ c.eval-left.ensures.quiet
    (asks_left (g.E.Env.view c.args.env.now).meanings c.args.expr.now c.deref-in-Bin.result.now c.in-Bin.op c.in-Bin.a
    c.in-Bin.b c.deref-in-Bin.ensures c.in-Bin.is quiet)

-- the value of the left side alone
pub returns-else-needs_right-clause-value : goal.returns-else-needs_right-clause-value
returns-else-needs_right-clause-value g t c =
    let same = to_z-of_z w64 c.eval-left.result (record { sfits = c.eval-left.type_inv }) in
    let needless : needs_right c.in-Bin.op c.eval-left.result ≡ false =
    ap (needs_right c.in-Bin.op) (sym same) ∙ (sym c.needs_right.ensures ∙ c.if-needs_right.false) in
    to_z-of_z w64 c.worth_of-else-needs_right.result (record { sfits = c.worth_of-else-needs_right.type_inv })
    ∙ (c.worth_of-else-needs_right.ensures
    ∙ (ap worth (c.counts_as_true-else-needs_right.ensures ∙ ap is_so same)
    ∙ value_of_left
    (g.E.Env.view c.args.env.now).meanings c.args.expr.now c.deref-in-Bin.result.now c.in-Bin.op c.in-Bin.a
    c.in-Bin.b c.eval-left.result c.deref-in-Bin.ensures c.in-Bin.is c.eval-left.ensures.value needless))

-- a test is small
pub returns-else-needs_right-clause-small : goal.returns-else-needs_right-clause-small
returns-else-needs_right-clause-small g t c =
    bits_within (leaf_count c.args.expr.now * most) c.worth_of-else-needs_right.result
    (record { sfits = c.worth_of-else-needs_right.type_inv })
    (subst (λ (x : ℤ). IsWithin (leaf_count c.args.expr.now * most) x) (sym c.worth_of-else-needs_right.ensures)
    (test_small c.args.expr.now c.counts_as_true-else-needs_right.result))

-- the left side asks for nothing where the whole does not
pub returns-else-needs_right-clause-quiet : goal.returns-else-needs_right-clause-quiet
returns-else-needs_right-clause-quiet g t c quiet =
    c.eval-left.ensures.quiet
    (asks_left (g.E.Env.view c.args.env.now).meanings c.args.expr.now c.deref-in-Bin.result.now c.in-Bin.op c.in-Bin.a
    c.in-Bin.b c.deref-in-Bin.ensures c.in-Bin.is quiet)

-- a number asks for no reading
pub returns-in-Num-clause-asked : goal.returns-in-Num-clause-asked
returns-in-Num-clause-asked g t c =
    let old = g.E.Env.view c.args.env.now in
    ap (λ (n : ℕ). counted n old.asked) (readings_of_num old.meanings c.args.expr.now c.in-Num.n c.in-Num.is)

-- a call asks for its own readings
pub returns-in-Call-clause-asked : goal.returns-in-Call-clause-asked
returns-in-Call-clause-asked g t c =
    let old = g.E.Env.view c.args.env.now in
    c.call.ensures.asked
    ∙ ap (λ (n : ℕ). counted n old.asked)
    (readings_of_call old.meanings c.args.expr.now c.in-Call.function c.in-Call.args c.as_slice.result.now
    c.in-Call.is c.as_slice.ensures)

-- a `!` asks for the readings behind it
pub returns-in-Not-clause-asked : goal.returns-in-Not-clause-asked
returns-in-Not-clause-asked g t c =
    let old = g.E.Env.view c.args.env.now in
    c.eval.ensures.asked
    ∙ ap (λ (n : ℕ). counted n old.asked)
    (readings_of_not old.meanings c.args.expr.now c.deref.result.now c.in-Not.e c.deref.ensures c.in-Not.is)

-- a `-` asks for the readings behind it
pub returns-in-Neg-clause-asked : goal.returns-in-Neg-clause-asked
returns-in-Neg-clause-asked g t c =
    let old = g.E.Env.view c.args.env.now in
    c.eval-in-Neg.ensures.asked
    ∙ ap (λ (n : ℕ). counted n old.asked)
    (readings_of_neg old.meanings c.args.expr.now c.deref-in-Neg.result.now c.in-Neg.e c.deref-in-Neg.ensures
    c.in-Neg.is)

-- if the right side is needed, both sides ask for theirs
pub returns-then-needs_right-clause-asked : goal.returns-then-needs_right-clause-asked
returns-then-needs_right-clause-asked g t c =
    let old = g.E.Env.view c.args.env.now in
    let mid = g.E.Env.view c.eval-left.new.env in
    let left = c.deref-in-Bin.result.now in
    let right = c.deref-then-needs_right.result.now in
    let same = to_z-of_z w64 c.eval-left.result (record { sfits = c.eval-left.type_inv }) in
    let needed : needs_right c.in-Bin.op c.eval-left.result ≡ true =
    ap (needs_right c.in-Bin.op) (sym same) ∙ (sym c.needs_right.ensures ∙ c.if-needs_right.true) in
    c.eval-then-needs_right.ensures.asked
    ∙ (ap (λ (m : Meanings). counted (readings_of m right) mid.asked) c.eval-left.ensures.stays.meanings
    ∙ (ap (λ (n : ℕ). counted (readings_of old.meanings right) n) c.eval-left.ensures.asked
    ∙ (counted_on (readings_of old.meanings left) (readings_of old.meanings right) old.asked
    ∙ ap (λ (n : ℕ). counted n old.asked)
    (readings_of_sides old.meanings c.args.expr.now left right c.in-Bin.op c.in-Bin.a c.in-Bin.b c.eval-left.result
    c.deref-in-Bin.ensures c.deref-then-needs_right.ensures c.in-Bin.is c.eval-left.ensures.value needed))))

-- where the left side decides, it alone asks
pub returns-else-needs_right-clause-asked : goal.returns-else-needs_right-clause-asked
returns-else-needs_right-clause-asked g t c =
    let old = g.E.Env.view c.args.env.now in
    let same = to_z-of_z w64 c.eval-left.result (record { sfits = c.eval-left.type_inv }) in
    let needless : needs_right c.in-Bin.op c.eval-left.result ≡ false =
    ap (needs_right c.in-Bin.op) (sym same) ∙ (sym c.needs_right.ensures ∙ c.if-needs_right.false) in
    c.eval-left.ensures.asked
    ∙ ap (λ (n : ℕ). counted n old.asked)
    (readings_of_left old.meanings c.args.expr.now c.deref-in-Bin.result.now c.in-Bin.op c.in-Bin.a c.in-Bin.b
    c.eval-left.result c.deref-in-Bin.ensures c.in-Bin.is c.eval-left.ensures.value needless)
