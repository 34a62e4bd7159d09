-- The only point.
use Rattle.std.proofs.Common.{arith}
use Rattle.cons_eval.proofs.CallArguments.{only_on_board}
use Rattle.cons_eval.proofs.calls.of_point.Goals as goal

-- it is on the board
pub value_at-requires : goal.value_at-requires
value_at-requires g c = grind (arith, only_on_board)
