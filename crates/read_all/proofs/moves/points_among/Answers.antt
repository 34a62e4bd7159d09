-- The candidates are those of the question, and the points of the board are those of any that agrees.
use Rattle.std.proofs.Common.{nat_lt, arith}
use Rattle.trial_board.proofs.AfterLemmas.{size-after}
use Rattle.read_tree.proofs.ReadyLemmas.{candidate_inside}
use Rattle.read_all.proofs.moves.points_among.Goals as goal

-- a candidate is a point of the board
pub returns-in-Candidates-clause-on_board : goal.returns-in-Candidates-clause-on_board
returns-in-Candidates-clause-on_board g c = grind (arith, candidate_inside)

-- the board has the same size on each position that agrees
pub returns-in-EveryPoint-clause-over : goal.returns-in-EveryPoint-clause-over
returns-in-EveryPoint-clause-over g c = grind (arith, nat_lt, size-after)
