-- The attacker tries his candidates, and the defender every point.
use Rattle.std.proofs.Common.{◌∙◌, sym}
use Rattle.sure_rules.proofs.SureLemmas.{tried_candidate}
use Rattle.problem_verdicts.proofs.SureMoveLemmas.{tried_inside}
use Rattle.problem_verdicts.proofs.sure_moves.tried_points.Goals as goal

-- it is the attacker's turn
pub returns-then-node : goal.returns-then-node
returns-then-node c = λ p on.
    c.candidates_on.ensures p ∙ sym (tried_candidate c.args.node c.args.position.now p c.if-node.true)

-- it is the defender's
pub returns : goal.returns
returns c = λ p on. tried_inside c.args.node c.args.position.now p c.if-node.false on
