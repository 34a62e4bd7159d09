use Rattle.std.proofs.Common.{ap, ◌∙◌, arith}
use Rattle.wider_rules.specs.Strings.{holds_next}
use Rattle.read_proof.proofs.ApproachLemmas.{holds_on, takes_is}
use Rattle.read_proof.proofs.approach.takes_some.Goals as goal

-- the stones of the other colour next to the point are on the board
pub last_liberties-requires : goal.last_liberties-requires
last_liberties-requires c = grind (arith, holds_on)

-- the point is the last liberty of one of them, or of none
pub returns : goal.returns
returns c =
    let pos = c.args.pos.now in
    takes_is pos.size pos.cells c.args.own c.args.l c.has.result c.next_to.result
    (λ q. c.next_to.ensures q ∙ ap (λ k. holds_next pos.size pos.cells k c.args.l q) c.foe_of.ensures)
    (c.has.ensures ∙ c.last_liberties.ensures c.args.l)
