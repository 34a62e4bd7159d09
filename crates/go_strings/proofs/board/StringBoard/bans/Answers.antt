use Rattle.std.proofs.Common.{arith}
use Rattle.go_strings.proofs.ShownBoards.{shown}
use Rattle.go_strings.proofs.board.StringBoard.bans.Goals as goal

-- the ban is the one that is shown
pub returns : goal.returns
returns c = grind (arith, shown)
