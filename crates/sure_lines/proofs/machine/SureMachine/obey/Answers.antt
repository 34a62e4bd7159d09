-- The list of the names takes memory.
use Rattle.std.proofs.Common.{refl, arith}
use Rattle.sure_lines.proofs.LineAnswers.{obeyed}
use Rattle.sure_lines.proofs.machine.SureMachine.obey.Goals as goal

-- it is told if it was found
pub returns-in-ListCommands-clause-answer : goal.returns-in-ListCommands-clause-answer
returns-in-ListCommands-clause-answer g c = grind (arith, obeyed)
