-- No helper has the name, and none is taken out.
use Rattle.std.proofs.Common.{arith}
use Rattle.session_core.proofs.HelperAnswers.{none-named, remove-none, nothing-there, not-there}
use Rattle.session_core.proofs.engine.Engine.drop_helper.Goals as goal

-- it is told that no helper has the name
pub returns : goal.returns
returns g c = grind (arith, none-named, nothing-there, remove-none, not-there)
