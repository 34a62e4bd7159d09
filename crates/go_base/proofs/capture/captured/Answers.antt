use Rattle.std.proofs.Common.{arith}
use Rattle.go_base.proofs.FloodVisits.{none_at}
use Rattle.go_base.proofs.Takes.{Takes-none, Takes-all, on_board_with}
use Rattle.go_base.proofs.capture.captured.Goals as goal

-- the four sides have all that is taken
pub returns-clause-over : goal.returns-clause-over
returns-clause-over g c = λ pos a beside.
    let s = g.V.View.rows c.args.board.now in
    let cells = g.V.View.cells c.args.board.now pos in
    let above = c.take_side.ensures in
    let below = c.take_side-2.ensures in
    let left = c.take_side-3.ensures in
    let right = c.take_side-4.ensures in
    let a3 = g.met.V.View.asks_agrees _ _ _ right.looks.asked pos a in
    let a2 = g.met.V.View.asks_agrees _ _ _ left.looks.asked pos a3 in
    let a1 = g.met.V.View.asks_agrees _ _ _ below.looks.asked pos a2 in
    let rows1 = g.met.V.View.asks_rows _ _ _ above.looks.asked in
    let rows2 = g.met.V.View.asks_rows _ _ _ below.looks.asked in
    let rows3 = g.met.V.View.asks_rows _ _ _ left.looks.asked in
    let same1 = above.looks.same pos in
    let same2 = below.looks.same pos in
    let same3 = left.looks.same pos in
    let point = c.new-spot.ensures.point in
    let first = rw point at (above.over pos a1) in
    let second = rw (point, rows1, same1) at (below.over pos a2) in
    let third = rw (point, rows2, rows1, same2, same1) at (left.over pos a3) in
    let fourth = rw (point, rows3, rows2, rows1, same3, same2, same1) at (right.over pos a) in
    Takes-all s cells c.args.c c.args.p 4 _ c.requires (omega arith) (fourth (third (second (first
    (Takes-none s cells c.args.c c.args.p c.new-taken.result c.new-taken.ensures))))) beside

-- each side gave points of the board
pub returns-clause-on_board : goal.returns-clause-on_board
returns-clause-on_board g c = grind (arith, on_board_with, none_at)
