use Rattle.std.proofs.Common.{◌∙◌, ◌*◌}
use Rattle.std.specs.FinSet as set
use Rattle.wider_rules.specs.Strings.{holds_next}
use Rattle.read_proof.proofs.FurtherLemmas.{beside_next}
use Rattle.read_proof.proofs.ApproachLemmas.{next_to_one}
use Rattle.read_proof.proofs.approach.next_to.Goals as goal

-- what is beside the set of one point is next to that point
pub returns : goal.returns
returns c = λ q.
    let pos = c.args.pos.now in
    let alone = c.add.new.self in
    c.beside.ensures q
    ∙ beside_next pos.size pos.cells c.args.cell (set.contains alone) q
    ∙ next_to_one (pos.size * pos.size) c.args.l c.new-alone.result alone
    (λ l. holds_next pos.size pos.cells c.args.cell l q) c.requires.on_board c.new-alone.ensures c.add.ensures
