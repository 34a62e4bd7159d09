-- Rescue is Save for the defender, and what is the side's own was joined to it.
use Rattle.std.proofs.Common.{◌∙◌}
use Rattle.wider_rules.proofs.StringLemmas.{joined}
use Rattle.read_proof.proofs.FurtherLemmas.{attacker_always, defender_always}
use Rattle.read_proof.proofs.further.always.Goals as goal

-- the attacker's turn
pub returns-then-attacker_to_play : goal.returns-then-attacker_to_play
returns-then-attacker_to_play c = λ p.
    joined c.rescue-found.result c.weak_enemies.result.liberties c.join.new.self p c.join.ensures
    ∙ attacker_always c.args.pos.now.size c.args.pos.now.cells c.args.target p c.args.attacker_to_play _ _
    c.if-attacker_to_play.true (c.rescue-found.ensures p) (c.weak_enemies.ensures.liberties p)

-- the defender's
pub returns : goal.returns
returns c = λ p.
    joined c.rescue-found.result c.cut.result c.join-2.new.self p c.join-2.ensures
    ∙ defender_always c.args.pos.now.size c.args.pos.now.cells c.args.target p c.args.attacker_to_play _ _
    c.if-attacker_to_play.false (c.rescue-found.ensures p) (c.cut.ensures p)
