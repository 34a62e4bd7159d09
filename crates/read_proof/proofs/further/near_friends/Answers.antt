use Rattle.std.proofs.Common.{◌∙◌}
use Rattle.std.specs.FinSet as set
use Rattle.wider_rules.proofs.SetLemmas.{friend_is}
use Rattle.read_proof.proofs.FurtherLemmas.{beside_next}
use Rattle.read_proof.proofs.further.near_friends.Goals as goal

-- the stones next to the liberties that are not of the target's string are its near friends
pub returns : goal.returns
returns c = λ q.
    let pos = c.args.pos.now in
    let libs = c.args.liberties.now in
    friend_is pos.size pos.cells c.args.target c.cell.result q libs c.string.result c.beside.result
    c.difference.result c.requires.on_board c.cell.ensures c.requires.liberties c.string.ensures
    (c.beside.ensures q ∙ beside_next pos.size pos.cells c.cell.result (set.contains libs) q) c.difference.ensures
