use Rattle.std.proofs.Common.{ap, sym, ◌∙◌, arith}
use Rattle.go_base.specs.Floods.{with_enemies}
use Rattle.go_base.specs.Sides.{neighbour_at}
use Rattle.go_base.proofs.BoundedSearches.{SpreadsUnder-visit, SpreadsUnder-skip}
use Rattle.go_base.proofs.flood.visit_side.Goals as goal

-- the neighbour on one more side was visited
pub returns-in-Some-clause-over : goal.returns-in-Some-clause-over
returns-in-Some-clause-over g c = λ pos a like old before.
    let here = ap (λ n. neighbour_at n c.args.spot.now.point c.args.side) (sym c.requires.rows) in
    SpreadsUnder-visit g.E.Enemies.asked (g.V.View.rows c.args.board.now) (g.V.View.cells c.args.board.now pos)
    c.args.own c.args.spot.now.point c.args.most c.args.side c.in-Some.r old
    (with_enemies c.args.found.now (g.E.Enemies.met c.args.enemies.now))
    (with_enemies c.visit.new.found (g.E.Enemies.met c.visit.new.enemies)) before
    (omega (arith, c.count.ensures.value, c.if-count-most.false)) c.requires.on_board
    (here ∙ sym c.neighbour.ensures.value ∙ c.in-Some.is) (c.visit.ensures.over pos a)

-- one more side is off the board
pub returns-in_default-clause-over : goal.returns-in_default-clause-over
returns-in_default-clause-over g c = λ pos a like old before.
    let here = ap (λ n. neighbour_at n c.args.spot.now.point c.args.side) (sym c.requires.rows) in
    SpreadsUnder-skip g.E.Enemies.asked (g.V.View.rows c.args.board.now) (g.V.View.cells c.args.board.now pos)
    c.args.own c.args.spot.now.point c.args.most c.args.side old _ before
    (omega (arith, c.count.ensures.value, c.if-count-most.false))
    (λ r e. c.in_default.not-Some r (c.neighbour.ensures.value ∙ sym here ∙ e))
