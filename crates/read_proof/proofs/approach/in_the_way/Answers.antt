use Rattle.std.proofs.Common.{ap, ◌∙◌, ◌&&◌, ◌*◌}
use Rattle.std.specs.FinSet as set
use Rattle.go_rules.specs.Below.{any_below}
use Rattle.go_rules.specs.Strings.{cell_at}
use Rattle.wider_rules.specs.Cramped.{foe_of, is_cramped}
use Rattle.wider_rules.specs.Strings.{holds_next}
use Rattle.wider_rules.proofs.SetLemmas.{way_is}
use Rattle.read_proof.proofs.FurtherLemmas.{beside_next}
use Rattle.read_proof.proofs.ApproachLemmas.{beside_cramped}
use Rattle.read_proof.proofs.approach.in_the_way.Goals as goal

-- the stones of the other colour beside the cramped points are in the way
pub returns : goal.returns
returns c = λ r.
    let pos = c.args.pos.now in
    let own = cell_at pos.cells c.args.target in
    let weak = c.args.weak.now in
    let cramped = c.cramped.result in
    way_is pos.size pos.cells c.args.target r weak c.beside.result c.requires.weak
    (c.beside.ensures r
    ∙ beside_next pos.size pos.cells c.foe_of.result (set.contains cramped) r
    ∙ ap (λ k. any_below (pos.size * pos.size) (λ l. set.contains cramped l && holds_next pos.size pos.cells k l r))
    (c.foe_of.ensures ∙ ap foe_of c.cell-own.ensures)
    ∙ beside_cramped (pos.size * pos.size) cramped (is_cramped pos.size pos.cells own) (set.contains weak)
    (λ l. holds_next pos.size pos.cells (foe_of own) l r)
    (λ l. rw c.cell-own.ensures at (c.cramped.ensures l)))
