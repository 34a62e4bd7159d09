use Rattle.std.proofs.Common.{◌∙◌, ◌*◌, ◌&&◌}
use Rattle.std.specs.FinSet as set
use Rattle.wider_rules.specs.Cramped.{is_cramped}
use Rattle.read_proof.proofs.FoundLemmas.{none_yet}
use Rattle.read_proof.proofs.ApproachLemmas.{found_below}
use Rattle.read_proof.proofs.approach.cramped.Goals as goal

-- nothing was tried
pub loop-l-init : goal.loop-l-init
loop-l-init c = λ r. none_yet c.new-found.result r c.new-found.ensures

-- all points were tried
pub returns : goal.returns
returns c = λ p.
    let pos = c.args.pos.now in
    c.loop-l.invariant p
    ∙ found_below (pos.size * pos.size) c.loop-l.l p
    (λ l. set.contains c.args.points.now l && is_cramped pos.size pos.cells c.args.own l)
    (rw c.size.ensures.value at (rw c.points-l-end.ensures.value at c.loop-l-test.false))
