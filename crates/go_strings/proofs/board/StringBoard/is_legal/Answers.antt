use Rattle.std.proofs.Common.{arith}
use Rattle.go_strings.proofs.ShownBoards.{shown, shown_point}
use Rattle.go_strings.proofs.board.StringBoard.is_legal.Goals as goal

-- the point is on the board
pub is_allowed-requires-clause-on_board : goal.is_allowed-requires-clause-on_board
is_allowed-requires-clause-on_board c =
    shown_point c.self.inside c.args.self.now c.args.p c.self.invariant c.self.view_is c.requires

-- the play is judged on what stands
pub returns : goal.returns
returns c = grind (arith, shown)
