-- The two points.
use Rattle.std.proofs.Common.{arith}
use Rattle.cons_eval.proofs.CallArguments.{two_on_board}
use Rattle.cons_eval.proofs.calls.of_pair.Goals as goal

-- the first is on the board
pub value_at_pair-requires-clause-a_on_board : goal.value_at_pair-requires-clause-a_on_board
value_at_pair-requires-clause-a_on_board g c = grind (arith, two_on_board)

-- the second is on the board
pub value_at_pair-requires-clause-b_on_board : goal.value_at_pair-requires-clause-b_on_board
value_at_pair-requires-clause-b_on_board g c = grind (arith, two_on_board)
