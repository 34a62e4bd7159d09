use Rattle.std.proofs.Common.{◌∙◌}
use Rattle.read_proof.proofs.FurtherLemmas.{lasts}
use Rattle.read_proof.proofs.strings.last_liberties.Goals as goal

-- the liberty of a string with just one is its last
pub returns : goal.returns
returns c = λ p.
    c.around_strings.ensures.liberties p
    ∙ lasts c.args.pos.now.size c.args.pos.now.cells c.args.points.now p
