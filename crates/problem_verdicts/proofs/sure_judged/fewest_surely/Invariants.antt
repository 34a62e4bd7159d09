-- The loop over the plies.
use Rattle.problem_verdicts.specs.SureQuestions.{HasLessSurelyBelow}
use Rattle.problem_verdicts.proofs.sure_judged.fewest_surely.Given as goal

-- with fewer plies the sure code is less
abbrev pub invariant-depths : goal.invariant-depths
invariant-depths l = HasLessSurelyBelow l.position l.kind l.target l.depths l.code l.plies
