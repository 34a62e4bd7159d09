use Rattle.std.proofs.Common.{ap, ◌∙◌, ◌||◌}
use Rattle.std.specs.FinSet as set
use Rattle.wider_rules.proofs.StringLemmas.{joined}
use Rattle.read_proof.proofs.FurtherLemmas.{attacker_wide, defender_wide}
use Rattle.read_proof.proofs.further.wide_alone.Goals as goal

-- at the attacker's turn Net and Link were joined
pub returns-then-attacker_to_play : goal.returns-then-attacker_to_play
returns-then-attacker_to_play c = λ p.
    joined c.net-found.result c.linked_liberties.result c.join.new.self p c.join.ensures
    ∙ attacker_wide c.args.pos.now.size c.args.pos.now.cells c.args.target p c.args.attacker_to_play _ _
    c.if-attacker_to_play.true (c.net-found.ensures c.args.target p c.requires.liberties)
    (c.linked_liberties.ensures p)

-- at the defender's Beside, Join, Cover and Approach
pub returns : goal.returns
returns c = λ p.
    let weak = c.weak_enemies-found in
    let joins = c.linked_liberties-2 in
    let near = c.approach.result in
    let cover = c.cover.result in
    joined c.join-3.new.self near c.join-4.new.self p c.join-4.ensures
    ∙ ap (λ b. b || set.contains near p) (joined c.join-2.new.self cover c.join-3.new.self p c.join-3.ensures
    ∙ ap (λ b. b || set.contains cover p)
    (joined weak.result.liberties joins.result c.join-2.new.self p c.join-2.ensures))
    ∙ defender_wide c.args.pos.now.size c.args.pos.now.cells c.args.target p c.args.attacker_to_play _ _ _ _
    c.if-attacker_to_play.false (weak.ensures.liberties p) (joins.ensures p) (c.cover.ensures p) (c.approach.ensures p)
