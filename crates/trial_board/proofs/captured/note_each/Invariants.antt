use Rattle.std.proofs.Common.{◌≤◌, ◌-◌}
use Rattle.std.specs.FinSet as set
use Rattle.go_rules.specs.Board.{largest_points}
use Rattle.trial_board.proofs.CapturedLemmas.{Noted}
use Rattle.trial_board.proofs.captured.note_each.Given as goal

-- the points below the next one are written
abbrev pub invariant-loop-q : goal.invariant-loop-q
invariant-loop-q l = Noted (set.contains l.fn.points) l.fn.first l.initial.row l.row l.count l.next ×
    (l.next ≤ largest_points)

-- how many points are left
abbrev pub decreases-loop-q : goal.decreases-loop-q
decreases-loop-q l = largest_points - l.next
