use Rattle.std.proofs.Common.{arith}
use Rattle.go_rules.proofs.Results.{play_occupied, play_ko, play_else}
use Rattle.go_base.proofs.HeldBoards.{stone_is_test}
use Rattle.go_base.proofs.position.Position.play.Goals as goal

-- a play on a stone is refused as occupied
pub returns-then-ne-clause-value : goal.returns-then-ne-clause-value
returns-then-ne-clause-value c = grind (arith, play_occupied, stone_is_test)

-- a play on an empty point that the ban forbids is refused by it
pub returns-then-bans-clause-value : goal.returns-then-bans-clause-value
returns-then-bans-clause-value c = grind (arith, play_ko, stone_is_test)

-- any other play is the one without the ban
pub returns-clause-value : goal.returns-clause-value
returns-clause-value c = grind (arith, play_else, stone_is_test)
