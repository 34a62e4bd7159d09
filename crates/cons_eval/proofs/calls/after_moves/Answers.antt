-- The loop over the moves.
use Rattle.std.proofs.Common.{slice_index_or, arith}
use Rattle.cons_eval.proofs.Moves.{next_move, no_move}
use Rattle.cons_eval.proofs.calls.after_moves.Goals as goal

-- a move is made, and the other colour is to move
pub loop-arg-preserved : goal.loop-arg-preserved
loop-arg-preserved g c = grind (arith, slice_index_or, next_move)

-- all moves are made
pub returns-clause-value : goal.returns-clause-value
returns-clause-value g c = grind (arith, no_move)
