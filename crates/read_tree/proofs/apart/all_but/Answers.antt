use Rattle.std.proofs.Common.{arith}
use Rattle.std.proofs.Math.Bool.{and_comm}
use Rattle.go_base.proofs.Marks.{contains-remove_nat}
use Rattle.read_tree.proofs.apart.all_but.Goals as goal

-- a point is had where it was, and is not the one that is left out
pub returns : goal.returns
returns c = grind (arith, contains-remove_nat, and_comm)
