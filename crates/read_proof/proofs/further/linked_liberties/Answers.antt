-- The liberties of the near friends' strings that have few are those of the linked strings.
use Rattle.std.proofs.Common.{◌∙◌}
use Rattle.wider_rules.proofs.SetLemmas.{join_is}
use Rattle.read_proof.proofs.further.linked_liberties.Goals as goal

-- the liberties of their strings that have few
pub returns : goal.returns
returns c = λ p.
    c.around_strings.ensures.liberties p
    ∙ join_is c.args.pos.now.size c.args.pos.now.cells c.args.target p c.near_friends.result c.near_friends.ensures
    c.args.most
