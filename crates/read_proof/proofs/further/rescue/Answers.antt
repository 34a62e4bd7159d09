use Rattle.std.proofs.Common.{◌∙◌}
use Rattle.wider_rules.proofs.SetLemmas.{rescue_is}
use Rattle.read_proof.proofs.further.rescue.Goals as goal

-- their last liberties are Rescue
pub returns : goal.returns
returns c = λ p.
    c.last_liberties.ensures p
    ∙ rescue_is c.args.pos.now.size c.args.pos.now.cells c.args.target p c.weak_enemies.result.enemies
    c.weak_enemies.ensures.enemies
