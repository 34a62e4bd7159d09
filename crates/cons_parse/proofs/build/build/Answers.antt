-- The run over items with a stack.
use Rattle.std.proofs.Common.{refl, arith}
use Rattle.cons_parse.specs.Building.{run}
use Rattle.cons_parse.proofs.Runs.{run_more}
use Rattle.cons_parse.proofs.build.build.Goals as goal

-- nothing is open before the first item
pub loop-item-init : goal.loop-item-init
unfolding run
loop-item-init c = rw c.new-frames.ensures.items refl

-- an item is a step of the run
pub loop-item-preserved : goal.loop-item-preserved
loop-item-preserved c = grind (arith, run_more)
