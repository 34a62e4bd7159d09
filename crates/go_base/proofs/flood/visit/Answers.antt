use Rattle.std.proofs.Common.{arith}
use Rattle.go_base.proofs.FloodResults.{Finds-one}
use Rattle.go_base.proofs.FloodVisits.{met_alone}
use Rattle.go_base.proofs.flood.visit.Goals as goal

-- the visited point came, and waits
pub returns-then-eq-clause-finds : goal.returns-then-eq-clause-finds
returns-then-eq-clause-finds g c =
    Finds-one (g.V.View.rows c.args.board.now) c.args.r c.args.found.now.stones c.add_stone.new.stones
    c.args.waiting.now c.add_stone.new.waiting c.requires.on_board c.requires.waits c.add_stone.ensures.stones
    c.add_stone.ensures.waiting

-- only the visited point may have come
pub returns-else-eq-2-clause-enemies_alone : goal.returns-else-eq-2-clause-enemies_alone
returns-else-eq-2-clause-enemies_alone g c = grind (arith, met_alone)
