use Rattle.std.proofs.Common.{arith}
use Rattle.match_engine.proofs.RememberedPlays.{answer_codes}
use Rattle.match_engine.proofs.constraint_question.ConstraintQuestionEnv.code.Goals as goal

-- the answer's code is that of the present depths
pub returns-clause-value : goal.returns-clause-value
returns-clause-value c = grind (arith, answer_codes)
