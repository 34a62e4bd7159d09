use Rattle.std.proofs.Common.{◌≡◌, filter}
use Rattle.std.specs.List.{range_with_len}
use Rattle.pattern_coverage.specs.Ends.{is_blocked}
use Rattle.pattern_coverage.proofs.blocked.blocked_points.Given as goal

-- of the points so far those that are blocked
abbrev pub invariant-points : goal.invariant-points
invariant-points l = l.points.items ≡ filter (is_blocked l.position l.friend) (range_with_len 0 l.at)
