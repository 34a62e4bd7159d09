use Rattle.std.proofs.Common.{arith}
use Rattle.go_strings.proofs.LastMoves.{last_taken_is}
use Rattle.go_strings.proofs.board.StringBoard.last_taken.Goals as goal

-- what the last of the trail took
pub returns-clause-last : goal.returns-clause-last
returns-clause-last c = grind (arith, last_taken_is)
