use Rattle.std.proofs.Common.{◌∙◌}
use Rattle.wider_rules.proofs.SetLemmas.{approach_is}
use Rattle.read_proof.proofs.approach.approach.Goals as goal

-- the liberties of their strings that have at most two
pub returns : goal.returns
returns c = λ p.
    c.around_strings.ensures.liberties p
    ∙ approach_is c.args.pos.now.size c.args.pos.now.cells c.args.target p c.in_the_way.result c.in_the_way.ensures
