use Rattle.std.proofs.Common.{◌≡◌, ℕ, ◌-◌, ◌<◌, true}
use Rattle.std.specs.FinSet as set
use Rattle.go_rules.specs.Board.{largest_points}
use Rattle.read_tree.proofs.order.first_left.Given as goal

-- each point of the set before the next one was tried
abbrev pub invariant-loop-p : goal.invariant-loop-p
invariant-loop-p l = (q : ℕ) → q < l.next → set.contains l.points q ≡ true → set.contains l.tried q ≡ true

-- how many points are left
abbrev pub decreases-loop-p : goal.decreases-loop-p
decreases-loop-p l = largest_points - l.next
