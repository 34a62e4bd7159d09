use Rattle.std.proofs.Common.{arith}
use Rattle.go_base.proofs.Marks.{insert-member}
use Rattle.go_base.proofs.flood.add_stone.Goals as goal

-- a stone that was found before changes nothing
pub returns-else-not-has-clause-stones : goal.returns-else-not-has-clause-stones
returns-else-not-has-clause-stones c = grind (arith, insert-member)
