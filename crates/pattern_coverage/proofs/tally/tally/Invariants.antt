use Rattle.std.proofs.Common.{◌≡◌, length, take}
use Rattle.pattern_coverage.specs.Tally.{IsTallyOf}
use Rattle.pattern_coverage.proofs.tally.tally.Given as goal

-- the ends so far are counted
abbrev pub invariant-ends : goal.invariant-ends
invariant-ends l = record {
  same_length : length l.counts.items ≡ l.patterns;
  tally : IsTallyOf (take l.end-index l.ends) l.counts.items;
}
