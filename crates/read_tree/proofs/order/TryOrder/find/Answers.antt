-- The sides of one more point were counted where it is a known liberty.
use Rattle.std.proofs.Common.{arith}
use Rattle.std.proofs.lemmas.Bool.{and_from}
use Rattle.read_rules.proofs.AreaLemmas.{target_on}
use Rattle.read_tree.proofs.OrderLemmas.{sides_of_known}
use Rattle.std.specs.FinSet as set
use Rattle.read_tree.proofs.order.TryOrder.find.Goals as goal

-- a known liberty's sides are looked at, and nothing for another point
pub loop-p-preserved : goal.loop-p-preserved
loop-p-preserved g c = grind (arith, target_on, sides_of_known, and_from)
