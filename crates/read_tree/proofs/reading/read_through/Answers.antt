-- The reading begins with no trial moves, and what it told is so of the view that is handed back.
use Rattle.std.proofs.Common.{arith}
use Rattle.read_tree.proofs.reading.read_through.Goals as goal

-- the liberties are known on the board without trial moves
pub read_known-answer-requires : goal.read_known-answer-requires
read_known-answer-requires g c = rw c.new-board.ensures c.requires

-- the answer is that of the board, on which no trial move is left
pub returns : goal.returns
returns g c = grind arith
