use Rattle.std.proofs.Common.{arith}
use Rattle.go_strings.proofs.ShownBoards.{shown, shown_point}
use Rattle.go_strings.proofs.board.StringBoard.cell.Goals as goal

-- the point is on the board
pub cell_on-requires-clause-on_board : goal.cell_on-requires-clause-on_board
cell_on-requires-clause-on_board c =
    shown_point c.self.inside c.args.self.now c.args.p c.self.invariant c.self.view_is c.requires

-- what stands there is shown
pub returns : goal.returns
returns c = grind (arith, shown)
