use Rattle.std.proofs.Common.{arith}
use Rattle.go_strings.proofs.SetCopies.{counted_none, counted_next, counted_all}
use Rattle.go_strings.proofs.bit_set.BitSet.count.Goals as goal

-- no member is below point 0
pub loop-q-init : goal.loop-q-init
loop-q-init c = counted_none c.args.self.now

-- there are no more members than points
pub overflow_add-count : goal.overflow_add-count
overflow_add-count c = omega (arith, c.loop-q.invariant.few, c.in-Some.ensures.some.0, c.in-Some.ensures.some.1)

-- the next member is counted, and between it and those before stands none
pub loop-q-preserved : goal.loop-q-preserved
loop-q-preserved c =
    let s = c.in-Some.ensures.some in
    counted_next c.args.self.now c.loop-q.next c.in-Some.q c.loop-q.count c.loop-q.invariant s.0 s.3 s.2

-- no member is left
pub returns : goal.returns
returns c = counted_all c.args.self.now c.loop-q.next c.loop-q.count c.loop-q.invariant c.in_default.ensures.none
