use Rattle.std.proofs.Common.{arith}
use Rattle.go_rules.proofs.Cells.{stone_test}
use Rattle.go_rules.proofs.Results.{play_occupied}
use Rattle.go_base.proofs.AllowedPlays.{banned_is_illegal}
use Rattle.match_engine.proofs.OpenPlays.{open_is_legal}
use Rattle.match_engine.proofs.legality.is_legal.Goals as goal

-- a play where a stone stands is not legal
pub returns-then-ne : goal.returns-then-ne
returns-then-ne c = grind (arith, play_occupied, stone_test)

-- a play that the ban is on is not legal
pub returns-then-bans : goal.returns-then-bans
returns-then-bans c = grind (arith, banned_is_illegal)

-- one with an empty point beside it is legal
pub returns-then-has_empty_neighbour : goal.returns-then-has_empty_neighbour
returns-then-has_empty_neighbour c = grind (arith, open_is_legal, stone_test)
