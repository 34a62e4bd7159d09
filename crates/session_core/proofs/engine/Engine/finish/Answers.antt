-- What may take long was done, and its answer put behind the id.
use Rattle.std.proofs.Common.{arith}
use Rattle.session_core.proofs.LoadAnswers.{file-of, missed-told}
use Rattle.session_core.proofs.LineAnswers.{answers-command}
use Rattle.session_core.proofs.engine.Engine.finish.Goals as goal

-- the reply answers each line that says this
pub returns-clause-answers : goal.returns-clause-answers
returns-clause-answers g c = grind (arith, file-of, answers-command, missed-told)
