-- Exactly these moves, or these at least.
use Rattle.problem_verdicts.proofs.VerdictLemmas.{exactly_these, these_at_least}
use Rattle.problem_verdicts.proofs.laws.answers_mean_moves.Goals as goal

-- with other moves ruled out
pub returns-clause-only : goal.returns-clause-only
returns-clause-only c e f m tells only solved needed allowed = exactly_these e f m tells solved needed allowed only

-- with other moves allowed
pub returns-clause-some : goal.returns-clause-some
returns-clause-some c e f m tells only solved needed allowed = these_at_least e f m tells solved needed allowed only
