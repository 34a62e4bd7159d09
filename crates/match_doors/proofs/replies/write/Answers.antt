-- One match more is written.
use Rattle.std.proofs.Common.{◌∙◌, ap, arith}
use Rattle.match_doors.specs.Matching.{bytes_of}
use Rattle.match_doors.proofs.Written.{AreWrittenTo-more}
use Rattle.match_doors.proofs.replies.write.Goals as goal

-- the next match
pub matches-preserved : goal.matches-preserved
matches-preserved c =
    AreWrittenTo-more c.matches.i c.args.found.now c.args.out.now c.matches.out c.bytes_of.result
    c.index-found-i.result c.matches.invariant (omega (arith, c.matches-test.true, c.requires)) c.matches-test.true
    (c.bytes_of.ensures ∙ ap bytes_of c.index-found-i.is)
