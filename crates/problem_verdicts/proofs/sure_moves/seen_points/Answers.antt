-- What is looked at by the scope.
use Rattle.problem_verdicts.proofs.SureMoveLemmas.{seen_inside}
use Rattle.problem_verdicts.proofs.sure_moves.seen_points.Goals as goal

-- what is tried
pub returns-in-Tried : goal.returns-in-Tried
returns-in-Tried c = rw c.in-Tried.is c.tried_points.ensures

-- every point
pub returns-in-Anywhere : goal.returns-in-Anywhere
returns-in-Anywhere c = rw c.in-Anywhere.is (λ p on. seen_inside c.args.node c.args.position.now p on)
