-- No helper has the name, and none is switched off.
use Rattle.std.proofs.Common.{arith}
use Rattle.session_core.proofs.HelperAnswers.{change-none, none-named, not-there}
use Rattle.session_core.proofs.engine.Engine.switch_off.Goals as goal

-- it is told that no helper has the name
pub returns : goal.returns
returns g c = grind (arith, none-named, change-none, not-there)
