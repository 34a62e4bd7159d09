-- The rest that was given is the last line.
use Rattle.std.proofs.Common.{arith}
use Rattle.sure_lines.proofs.SessionLemmas.{if_ok_map, answered-is, answered-none}
use Rattle.sure_lines.proofs.TakenLines.{rest_taken, no_rest}
use Rattle.sure_lines.proofs.session.answer_rest.Goals as goal

-- it was answered
pub returns-in-Some-clause-answered : goal.returns-in-Some-clause-answered
returns-in-Some-clause-answered g c = grind (arith, rest_taken, if_ok_map, answered-is)

-- there is no rest
pub returns-in-None-clause-answered : goal.returns-in-None-clause-answered
returns-in-None-clause-answered g c = grind (arith, no_rest, answered-is, answered-none)
