-- Each point's byte is written once.
use Rattle.std.proofs.Common.{◌∙◌, ap, arith}
use Rattle.board_doors.specs.Replies.{truth_number}
use Rattle.board_doors.proofs.MoveNumbers.{AreWritten-none, AreWritten-more}
use Rattle.board_doors.proofs.replies.point_bytes.Goals as goal

-- nothing is written yet
pub loop-p-init : goal.loop-p-init
loop-p-init c = AreWritten-none c.args.points.now c.no_points-bytes.result c.no_points-bytes.ensures

-- one more point is
pub loop-p-preserved : goal.loop-p-preserved
loop-p-preserved c =
    AreWritten-more c.args.points.now c.loop-p.p c.loop-p.bytes c.truth_number.result c.loop-p.invariant
    (omega (arith, c.loop-p-test.true)) (c.truth_number.ensures ∙ ap truth_number c.has.ensures)

-- all points are
pub returns : goal.returns
returns c = λ p small. c.loop-p.invariant.filled p (omega (arith, small, c.loop-p-test.false))
