use Rattle.std.proofs.Common.{arith}
use Rattle.go_strings.proofs.ShownBoards.{shown, shown_point}
use Rattle.go_strings.proofs.board.StringBoard.liberties.Goals as goal

-- the point is on the board
pub liberty_count-requires-clause-on_board : goal.liberty_count-requires-clause-on_board
liberty_count-requires-clause-on_board c =
    shown_point c.self.inside c.args.self.now c.args.p c.self.invariant c.self.view_is c.requires

-- the liberties of the string that stands there are counted
pub returns : goal.returns
returns c = grind (arith, shown)
