-- The moves of a scope are those that the call for it tells.
use Rattle.problem_verdicts.proofs.judged.moves_of.Goals as goal

-- the candidates
pub returns-in-Tried : goal.returns-in-Tried
returns-in-Tried g c = rw c.in-Tried.is c.all_moves.ensures.moves

-- all points of the board
pub returns-in-Anywhere : goal.returns-in-Anywhere
returns-in-Anywhere g c = rw c.in-Anywhere.is c.moves_anywhere.ensures.moves
