-- The enemies next to the near friends' strings that have few liberties may cut.
use Rattle.std.proofs.Common.{◌∙◌}
use Rattle.wider_rules.proofs.SetLemmas.{cutter_is}
use Rattle.read_proof.proofs.further.cutters.Goals as goal

-- the enemies next to their strings that have few liberties
pub returns : goal.returns
returns c = λ r.
    c.around_strings.ensures.enemies r
    ∙ cutter_is c.args.pos.now.size c.args.pos.now.cells c.args.target r c.near_friends.result c.near_friends.ensures 4
