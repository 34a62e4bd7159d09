use Rattle.std.specs.FinSet as set
use Rattle.read_proof.proofs.FoundLemmas.{none_yet, beside_found}
use Rattle.read_proof.proofs.beside.beside.Goals as goal
use Rattle.std.proofs.Common.{◌∙◌}

-- nothing was tried
pub loop-p-init : goal.loop-p-init
loop-p-init c = λ r. none_yet c.new-found.result r c.new-found.ensures

-- all points were tried
pub returns : goal.returns
returns c = λ p.
    c.loop-p.invariant p
    ∙ beside_found c.args.pos.now.size c.args.pos.now.cells c.args.cell (set.contains c.args.points.now) c.loop-p.p p
    (rw c.size.ensures.value at (rw c.points-p-end.ensures.value at c.loop-p-test.false))
