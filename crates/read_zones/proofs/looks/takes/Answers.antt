-- The liberties that were found are the target's.
use Rattle.std.proofs.Common.{arith}
use Rattle.read_zones.proofs.looks.takes.Goals as goal

-- the target is on the position that is shown
pub can_take-requires-clause-target : goal.can_take-requires-clause-target
can_take-requires-clause-target g c = grind arith

-- its liberties are those that were found there
pub can_take-requires-clause-liberties : goal.can_take-requires-clause-liberties
can_take-requires-clause-liberties g c = grind arith

-- and on each that agrees
pub returns-clause-over : goal.returns-clause-over
returns-clause-over g c = grind arith
