use Rattle.go_rules.proofs.Places.{are_neighbours-is, AreNeighbours-sym}
use Rattle.go_rules.proofs.Links.{are_neighbours_comm}
use Rattle.go_rules.proofs.laws.neighbours_are_symmetric.Goals as goal

-- the test is the fact about places
pub returns-clause-places : goal.returns-clause-places
returns-clause-places c = are_neighbours-is

-- the test is the same both ways
pub returns-clause-points : goal.returns-clause-points
returns-clause-points c = are_neighbours_comm

-- and so is the fact
pub returns-clause-both_ways : goal.returns-clause-both_ways
returns-clause-both_ways c = AreNeighbours-sym

-- neighbours are on the board by definition
pub returns-clause-on_board : goal.returns-clause-on_board
returns-clause-on_board c = λ s a b near. (near.first_on_board, near.second_on_board)
