use Rattle.std.proofs.Common.{sym, arith}
use Rattle.read_proof.proofs.FoundLemmas.{beside_yes, beside_no}
use Rattle.sure_proof.proofs.candidate.is_beside.Goals as goal

-- a side is in the set
pub returns-then-has_side : goal.returns-then-has_side
returns-then-has_side c = grind (arith, beside_yes c.args.pos.now.size c.args.q c.loop-side.side)

-- no side is
pub returns : goal.returns
returns c =
    let none = rw c.size-size.ensures.value at c.loop-side.invariant in
    sym (beside_no c.args.pos.now.size c.args.q c.loop-side.side c.args.points.now c.requires c.loop-side-test.false
    none)
