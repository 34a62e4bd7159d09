-- Each point came where it has the byte.
use Rattle.std.proofs.Common.{arith}
use Rattle.std.proofs.lemmas.Bool.{eq-eqb, ne_eqb}
use Rattle.board_bytes.proofs.BytePoints.{none_yet, one_more, no_more}
use Rattle.board_bytes.proofs.read.points_with.Goals as goal

-- no point was asked about
pub loop-p-init : goal.loop-p-init
loop-p-init c = λ q. none_yet c.args.bytes.now c.args.byte q c.new-found.result c.new-found.ensures

-- one more was
pub loop-p-preserved : goal.loop-p-preserved
loop-p-preserved c = grind (arith, one_more, eq-eqb, no_more, ne_eqb)
