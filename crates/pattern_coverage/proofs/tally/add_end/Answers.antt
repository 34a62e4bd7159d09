use Rattle.std.proofs.Common.{arith}
use Rattle.std.proofs.lemmas.Option.{slice_get_read}
use Rattle.pattern_coverage.proofs.Tallies.{tally-more, tally-past}
use Rattle.pattern_coverage.proofs.tally.add_end.Goals as goal

-- the counts of the end's pattern have it too
pub returns-then-place-len-clause-more : goal.returns-then-place-len-clause-more
returns-then-place-len-clause-more c ends are = grind (arith, slice_get_read, tally-more)

-- an end of no pattern of the list changes nothing
pub returns-else-place-len-clause-more : goal.returns-else-place-len-clause-more
returns-else-place-len-clause-more c ends are = grind (arith, tally-past)
