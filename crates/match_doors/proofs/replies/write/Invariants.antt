-- The loop over the matches.
use Rattle.match_doors.specs.Matching.{AreWrittenTo}
use Rattle.match_doors.proofs.replies.write.Given as goal

-- the matches so far are written
abbrev pub invariant-matches : goal.invariant-matches
invariant-matches l = AreWrittenTo l.i l.found l.initial.out l.out
