-- The loop over the points.
use Rattle.std.proofs.Common.{◌-◌}
use Rattle.go_rules.specs.Board.{largest_points}
use Rattle.write_sure.proofs.walk.capture_among.Given as goal

-- how many points are left
abbrev pub decreases-plays : goal.decreases-plays
decreases-plays l = largest_points - l.from
