use Rattle.std.proofs.Common.{arith}
use Rattle.read_proof.proofs.ApproachLemmas.{holds_on, reached_is}
use Rattle.read_proof.proofs.approach.reached.Goals as goal

-- the stones of its colour next to the point are on the board
pub all_liberties-requires : goal.all_liberties-requires
all_liberties-requires c = grind (arith, holds_on)

-- their other liberties and the empty neighbours were gathered
pub returns : goal.returns
returns c = λ x.
    reached_is c.args.pos.now.size c.args.pos.now.cells c.args.own c.args.l x c.next_to.result c.next_to-2.result
    c.all_liberties.result c.without-found.result c.join.new.self c.next_to.ensures c.next_to-2.ensures
    (c.all_liberties.ensures x) c.without-found.ensures c.join.ensures
