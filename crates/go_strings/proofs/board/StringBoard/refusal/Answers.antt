use Rattle.std.proofs.Common.{arith}
use Rattle.go_strings.proofs.ShownBoards.{shown, shown_point}
use Rattle.go_strings.proofs.board.StringBoard.refusal.Goals as goal

-- the point is on the board
pub judge-requires-clause-on_board : goal.judge-requires-clause-on_board
judge-requires-clause-on_board c =
    shown_point c.self.inside c.args.self.now c.args.p c.self.invariant c.self.view_is c.requires

-- the play is legal on what stands
pub returns-in-Ok : goal.returns-in-Ok
returns-in-Ok c = grind (arith, shown)

-- or is forbidden there
pub returns-in-Err : goal.returns-in-Err
returns-in-Err c = grind (arith, shown)
