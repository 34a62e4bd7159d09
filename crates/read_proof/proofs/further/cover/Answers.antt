use Rattle.std.proofs.Common.{◌∙◌}
use Rattle.std.specs.FinSet as set
use Rattle.go_rules.specs.declared.Cell.TheVariants.{Empty}
use Rattle.wider_rules.proofs.SetLemmas.{cover_is}
use Rattle.read_proof.proofs.FurtherLemmas.{beside_next}
use Rattle.read_proof.proofs.further.cover.Goals as goal

-- the empty points beside the liberties of covered strings are Cover
pub returns : goal.returns
returns c = λ p.
    let pos = c.args.pos.now in
    let libs = c.covered_liberties.result in
    c.beside.ensures p ∙ beside_next pos.size pos.cells Empty (set.contains libs) p
    ∙ cover_is pos.size pos.cells c.args.target p libs c.covered_liberties.ensures
