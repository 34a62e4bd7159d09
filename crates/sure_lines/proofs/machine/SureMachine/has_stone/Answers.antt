-- What stands at a point that is not empty is a stone.
use Rattle.std.proofs.Common.{arith}
use Rattle.go_rules.proofs.Cells.{stone_test}
use Rattle.sure_lines.proofs.machine.SureMachine.has_stone.Goals as goal

-- the test tells stones from the empty point
pub returns : goal.returns
returns c = grind (arith, stone_test)
