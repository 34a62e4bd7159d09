use Rattle.std.proofs.Common.{◌∙◌, arith}
use Rattle.wider_rules.proofs.StringLemmas.{joined}
use Rattle.read_proof.proofs.FurtherLemmas.{further_with_wide, further_without}
use Rattle.read_proof.proofs.further.further_candidates.Goals as goal

-- those of a wide ply alone were joined
pub returns-then-wide : goal.returns-then-wide
returns-then-wide c = λ p.
    joined c.always-found.result c.wide_alone.result c.join.new.self p c.join.ensures
    ∙ further_with_wide c.args.pos.now.size c.args.pos.now.cells c.args.target p c.args.wide c.args.attacker_to_play
    _ _ c.if-wide.true (c.always-found.ensures p) (c.wide_alone.ensures p)

-- without a wide ply they are those of every ply
pub returns-else-wide : goal.returns-else-wide
returns-else-wide c = grind (arith, further_without)
