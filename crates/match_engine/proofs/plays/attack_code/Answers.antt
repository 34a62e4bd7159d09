use Rattle.std.proofs.Common.{arith}
use Rattle.match_engine.proofs.RememberedPlays.{read_code}
use Rattle.match_engine.proofs.plays.attack_code.Goals as goal

-- a stone stands there
pub returns-in-Black : goal.returns-in-Black
returns-in-Black c = grind (arith, read_code)
