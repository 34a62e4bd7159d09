use Rattle.go_base.proofs.FloodResults.{Finds-more}
use Rattle.go_base.proofs.BoundedSearches.{SpreadsUnder-none}
use Rattle.go_base.proofs.flood.spread.Goals as goal

-- the four sides were visited one after another, each on the board as it was
pub returns-clause-over : goal.returns-clause-over
returns-clause-over g c = λ pos a like.
    let s = g.V.View.rows c.args.board.now in
    let cells = g.V.View.cells c.args.board.now pos in
    let above = c.visit_side.ensures in
    let below = c.visit_side-2.ensures in
    let left = c.visit_side-3.ensures in
    let right = c.visit_side-4.ensures in
    let a3 = g.met.V.View.asks_agrees _ _ _ right.looks.asked pos a in
    let a2 = g.met.V.View.asks_agrees _ _ _ left.looks.asked pos a3 in
    let a1 = g.met.V.View.asks_agrees _ _ _ below.looks.asked pos a2 in
    let rows1 = g.met.V.View.asks_rows _ _ _ above.looks.asked in
    let rows2 = g.met.V.View.asks_rows _ _ _ below.looks.asked in
    let rows3 = g.met.V.View.asks_rows _ _ _ left.looks.asked in
    let same1 = above.looks.same pos in
    let same2 = below.looks.same pos in
    let same3 = left.looks.same pos in
    let point = c.new-spot.ensures.point in
    let first = rw point at (above.over pos a1) in
    let second = rw (point, rows1, same1) at (below.over pos a2) in
    let third = rw (point, rows2, rows1, same2, same1) at (left.over pos a3) in
    let fourth = rw (point, rows3, rows2, rows1, same3, same2, same1) at (right.over pos a) in
    fourth like _ (third like _ (second like _ (first like _
    (SpreadsUnder-none g.E.Enemies.asked s cells c.args.own c.args.q c.args.most _))))

-- what came at one side after another came
pub returns-clause-finds : goal.returns-clause-finds
returns-clause-finds g c =
    let s = g.V.View.rows c.args.board.now in
    let above = c.visit_side.ensures in
    let below = c.visit_side-2.ensures in
    let left = c.visit_side-3.ensures in
    let right = c.visit_side-4.ensures in
    let rows1 = g.met.V.View.asks_rows _ _ _ above.looks.asked in
    let rows2 = g.met.V.View.asks_rows _ _ _ below.looks.asked in
    let rows3 = g.met.V.View.asks_rows _ _ _ left.looks.asked in
    Finds-more s _ _ _ _ _ _ above.finds
    (Finds-more s _ _ _ _ _ _ (rw rows1 at below.finds)
    (Finds-more s _ _ _ _ _ _ (rw (rows2, rows1) at left.finds) (rw (rows3, rows2, rows1) at right.finds)))
