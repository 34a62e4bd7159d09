-- Counts ends of tries by pattern and part.
use Rattle.std.specs.Prelude.{◌≡◌, ℕ, ◌-◌, ◌<◌, ◌^◌, ◌==◌, ◌&&◌, List, Some, count_by, min, slice_get, slice_index}
use Rattle.pattern_coverage.specs.declared.counts.PartCounts.{PartCounts}
use Rattle.pattern_coverage.specs.declared.ends.End.{End}

-- the counts of each pattern are the numbers of these ends at each part, capped at the largest u64
abbrev pub IsTallyOf : List End → List PartCounts → Type 0
IsTallyOf ends counts = (place part : ℕ) (c : PartCounts) → slice_get counts place ≡ Some c → part < 7
    → slice_index c.counts part ≡ min (count_by (λ end. end.pattern == place && end.part == part) ends) (2 ^ 64 - 1)
