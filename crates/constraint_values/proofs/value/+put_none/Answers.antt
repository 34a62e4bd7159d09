-- Each part that is not needed gets no value, behind the parts below it.
use Rattle.std.proofs.Common.{arith}
use Rattle.cons_eval.proofs.Parts.{part_of_not, part_of_neg, left_part, right_part}
use Rattle.constraint_values.proofs.PartValues.{none_of_num, none_of_call, none_of_not, none_of_neg, none_of_bin}
use Rattle.constraint_values.proofs.value.+put_none.Goals as goal

-- what stands behind a `!` is smaller
pub put_none-requires : goal.put_none-requires
put_none-requires t c =
    grind (arith, part_of_not c.deref.result.now c.args.expr.now c.in-Not.e c.deref.ensures c.in-Not.is)

-- what stands behind a `-` is smaller
pub put_none-requires-in-Neg : goal.put_none-requires-in-Neg
put_none-requires-in-Neg t c =
    grind (arith, part_of_neg c.deref-in-Neg.result.now c.args.expr.now c.in-Neg.e c.deref-in-Neg.ensures c.in-Neg.is)

-- the left side is smaller
pub put_none-requires-in-Bin : goal.put_none-requires-in-Bin
put_none-requires-in-Bin t c =
    let part =
    left_part c.deref-in-Bin.result.now c.args.expr.now c.in-Bin.field-0 c.in-Bin.a c.in-Bin.b c.deref-in-Bin.ensures
    c.in-Bin.is in
    (omega (arith, part.smaller, c.decreases), tt)

-- the right side is smaller
pub put_none-requires-in-Bin-2 : goal.put_none-requires-in-Bin-2
put_none-requires-in-Bin-2 t c =
    let part =
    right_part c.deref-in-Bin-2.result.now c.args.expr.now c.in-Bin.field-0 c.in-Bin.a c.in-Bin.b
    c.deref-in-Bin-2.ensures c.in-Bin.is in
    (omega (arith, part.smaller, c.decreases), tt)

-- a number is one part
pub returns-in_ok-push-in-Num : goal.returns-in_ok-push-in-Num
returns-in_ok-push-in-Num t c = grind (arith, none_of_num)

-- a call is one part
pub returns-in_ok-push-in-Call : goal.returns-in_ok-push-in-Call
returns-in_ok-push-in-Call t c = grind (arith, none_of_call)

-- a `!` comes behind what stands behind it
pub returns-in_ok-push-in-Not : goal.returns-in_ok-push-in-Not
returns-in_ok-push-in-Not t c =
    none_of_not c.args.expr.now c.deref.result.now c.in-Not.e c.args.values.now.items c.put_none.new.values.items
    c.push-in-Not.new.self.items c.deref.ensures c.in-Not.is c.in_ok-put_none-in-Not.ensures
    c.in_ok-push-in-Not.ensures.items

-- a `-` comes behind what stands behind it
pub returns-in_ok-push-in-Neg : goal.returns-in_ok-push-in-Neg
returns-in_ok-push-in-Neg t c =
    none_of_neg c.args.expr.now c.deref-in-Neg.result.now c.in-Neg.e c.args.values.now.items
    c.put_none-in-Neg.new.values.items c.push-in-Neg.new.self.items c.deref-in-Neg.ensures c.in-Neg.is
    c.in_ok-put_none-in-Neg.ensures c.in_ok-push-in-Neg.ensures.items

-- an operator comes behind its sides
pub returns-in_ok-push-in-Bin : goal.returns-in_ok-push-in-Bin
returns-in_ok-push-in-Bin t c =
    none_of_bin c.args.expr.now c.deref-in-Bin.result.now c.deref-in-Bin-2.result.now c.in-Bin.field-0 c.in-Bin.a
    c.in-Bin.b c.args.values.now.items c.put_none-in-Bin.new.values.items c.put_none-in-Bin-2.new.values.items
    c.push-in-Bin.new.self.items c.deref-in-Bin.ensures c.deref-in-Bin-2.ensures c.in-Bin.is
    c.in_ok-put_none-in-Bin.ensures c.in_ok-put_none-in-Bin-2.ensures c.in_ok-push-in-Bin.ensures.items
