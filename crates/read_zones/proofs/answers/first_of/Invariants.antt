-- The loop over the points.
use Rattle.std.proofs.Common.{◌≡◌, ℕ, ◌-◌, ◌<◌, ◌&&◌, false}
use Rattle.std.specs.FinSet as set
use Rattle.go_rules.specs.Board.{largest_points}
use Rattle.sure_rules.specs.SureAnswer.{surely_succeeds}
use Rattle.read_zones.proofs.answers.first_of.Given as goal

-- no point so far succeeds
abbrev pub invariant-plays : goal.invariant-plays
invariant-plays l = (q : ℕ) → q < l.from
    → (set.contains l.points q && surely_succeeds l.plies l.node l.position q) ≡ false

-- how many points are left
abbrev pub decreases-plays : goal.decreases-plays
decreases-plays l = largest_points - l.from
