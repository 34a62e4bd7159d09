use Rattle.std.proofs.Common.{◌≡◌, ℕ, Some, take, slice_get}
use Rattle.match_rules.specs.Conditions.{Advice}
use Rattle.pat_types.specs.declared.pattern.Pattern.{Pattern}
use Rattle.read_rules.specs.declared.depths.Depths.{Depths}
use Rattle.pattern_coverage.specs.declared.counts.PartCounts.{PartCounts}
use Rattle.pattern_coverage.specs.Ends.{AreLaterCounts, AreAllEnds}
use Rattle.pattern_coverage.proofs.position.ends_of_all.Given as goal

-- the ends of the patterns so far are told
abbrev pub invariant-patterns : goal.invariant-patterns
invariant-patterns l = (d : Depths) (advice : Advice)
    → ((place : ℕ) (p : Pattern) (c : PartCounts) → slice_get l.patterns place ≡ Some p
    → slice_get l.later place ≡ Some c → AreLaterCounts d advice p l.position l.friend c)
    → AreAllEnds d advice (take l.place l.patterns) l.position l.friend l.counts.items
