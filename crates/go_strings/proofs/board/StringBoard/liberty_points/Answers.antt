use Rattle.std.proofs.Common.{arith}
use Rattle.go_strings.proofs.ShownBoards.{shown, shown_point}
use Rattle.go_strings.proofs.board.StringBoard.liberty_points.Goals as goal

-- the point is on the board
pub liberties_at-requires-clause-on_board : goal.liberties_at-requires-clause-on_board
liberties_at-requires-clause-on_board c =
    shown_point c.self.inside c.args.self.now c.args.p c.self.invariant c.self.view_is c.requires

-- the string that stands there is shown
pub returns : goal.returns
returns c = grind (arith, shown)
