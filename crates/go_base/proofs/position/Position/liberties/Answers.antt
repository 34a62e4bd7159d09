use Rattle.std.proofs.Common.{arith}
use Rattle.go_base.proofs.Liberties.{len-liberty_points}
use Rattle.go_base.proofs.position.Position.liberties.Goals as goal

-- the liberties are as many as the points of their set
pub returns : goal.returns
returns c = grind (arith, len-liberty_points)
