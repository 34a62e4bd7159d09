use Rattle.std.proofs.Common.{arith}
use Rattle.go_base.proofs.AllowedPlays.{banned_is_illegal, free_is_legal}
use Rattle.go_base.proofs.position.Position.is_legal_on.Goals as goal

-- what the ban forbids is not legal
pub returns-then-bans-clause-value : goal.returns-then-bans-clause-value
returns-then-bans-clause-value c = grind (arith, banned_is_illegal)

-- what the ban does not forbid is legal if it can be played without the ban
pub returns-clause-value : goal.returns-clause-value
returns-clause-value c = grind (arith, free_is_legal)
