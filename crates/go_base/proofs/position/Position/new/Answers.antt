use Rattle.std.proofs.Common.{arith}
use Rattle.go_base.proofs.EmptyBoard.{HoldsPosition-empty, view_empty}
use Rattle.go_base.proofs.position.Position.new.Goals as goal

-- the empty board is kept as every position is
pub invariant_of-result : goal.invariant_of-result
invariant_of-result c = HoldsPosition-empty c.args.size c.empty_cells.result c.get.ensures.at_least
    c.get.ensures.at_most c.empty_cells.ensures

-- the first position is the empty board without a ban
pub returns : goal.returns
returns c = grind (arith, view_empty)
