use Rattle.std.proofs.Common.{ap, sym, ◌∙◌, arith}
use Rattle.go_base.specs.Sides.{neighbour_at}
use Rattle.go_base.proofs.LookSequences.{Looks-none}
use Rattle.go_base.proofs.PlayLooks.{near_taken_from}
use Rattle.go_base.proofs.SidesOfPoints.{neighbour_at-near}
use Rattle.go_base.proofs.Takes.{Takes-next}
use Rattle.go_base.proofs.capture.take_side.Goals as goal

-- the side's string came if it is taken
pub returns-in-Some-clause-over : goal.returns-in-Some-clause-over
returns-in-Some-clause-over g c = λ pos a before.
    let p = c.args.spot.now.point in
    let s = g.V.View.rows c.args.board.now in
    let at = ap (λ n. neighbour_at n p c.args.side) (sym c.requires.rows) ∙ sym c.neighbour.ensures.value ∙ c.in-Some.is
    in
    Takes-next s (g.V.View.cells c.args.board.now pos) c.args.c p c.args.side c.in-Some.q c.args.taken.now _ before
    (neighbour_at-near s p c.args.side c.in-Some.q c.requires.on_board at).0 at (c.take.ensures.over pos a before.whole)

-- only that string and its neighbours were looked at
pub returns-in-Some-clause-near : goal.returns-in-Some-clause-near
returns-in-Some-clause-near g c = λ pos a.
    let p = c.args.spot.now.point in
    let s = g.V.View.rows c.args.board.now in
    let at = ap (λ n. neighbour_at n p c.args.side) (sym c.requires.rows) ∙ sym c.neighbour.ensures.value ∙ c.in-Some.is
    in
    let on = neighbour_at-near s p c.args.side c.in-Some.q c.requires.on_board at in
    g.met.V.View.asks_within _ _ _ _ (c.take.ensures.near pos a)
    (λ r h. near_taken_from s (g.V.View.cells c.args.board.now pos) c.args.c p c.in-Some.q r on.0 on.1 h)

-- the side is off the board
pub returns-in_default-clause-over : goal.returns-in_default-clause-over
returns-in_default-clause-over g c = grind arith

-- nothing was looked at
pub returns-in_default-clause-looks : goal.returns-in_default-clause-looks
returns-in_default-clause-looks g c = Looks-none g.met.V.View.asks_none _ _

pub returns-in_default-clause-near : goal.returns-in_default-clause-near
returns-in_default-clause-near g c = λ pos a. g.met.V.View.asks_none _ _
