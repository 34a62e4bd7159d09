use Rattle.std.proofs.Common.{refl, ◌∙◌, arith}
use Rattle.go_base.proofs.SidesOfPoints.{near_above, near_below, near_left, near_right}
use Rattle.go_base.proofs.sides.Spot.neighbour.Goals as goal

-- the point one row less is a neighbour
pub returns-else-p-s-clause-near : goal.returns-else-p-s-clause-near
returns-else-p-s-clause-near c = grind (arith, near_above)

-- the point one row more is a neighbour
pub returns-then-p-s-2-clause-near : goal.returns-then-p-s-2-clause-near
returns-then-p-s-2-clause-near c = grind (arith, near_below)

-- the point one column less is a neighbour
pub returns-else-self-eq0-clause-near : goal.returns-else-self-eq0-clause-near
returns-else-self-eq0-clause-near c =
    near_left c.args.self.now.size c.args.self.now.size c.args.self.now.point refl c.get-s.ensures.at_most
    c.requires.on_board
    (λ z. c.if-self-eq0.false (c.requires.column ∙ z))

-- the point one column more is a neighbour
pub returns-else-self-s-clause-near : goal.returns-else-self-s-clause-near
returns-else-self-s-clause-near c = grind (arith, near_right)
