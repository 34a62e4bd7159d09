use Rattle.std.proofs.Common.{◌∙◌}
use Rattle.wider_rules.proofs.SetLemmas.{cut_is}
use Rattle.read_proof.proofs.further.cut.Goals as goal

-- their last liberties are Cut
pub returns : goal.returns
returns c = λ p.
    c.last_liberties.ensures p
    ∙ cut_is c.args.pos.now.size c.args.pos.now.cells c.args.target p c.cutters.result c.cutters.ensures
