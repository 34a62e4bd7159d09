use Rattle.std.proofs.Common.{◌≡◌, ℕ, ◌-◌, ◌<◌, ◌&&◌, true, false}
use Rattle.std.specs.FinSet as set
use Rattle.go_rules.specs.Board.{largest_points}
use Rattle.trial_board.specs.Trials.{KeepsTrial}
use Rattle.read_rules.specs.GameTree.{succeeds}
use Rattle.read_tree.specs.Allowances.{Ko, has, under}
use Rattle.read_tree.specs.Table.{IsTrueTableAt}
use Rattle.write_proof.specs.Printed.{position_on}
use Rattle.write_proof.proofs.alike.first_point.Given as goal

-- no candidate so far succeeds under any asked allowance
abbrev pub invariant-plays : goal.invariant-plays
invariant-plays g l = record {
  stays : KeepsTrial g.L.Look.shows g.L.Look.seen l.fn.board l.board;
  table : IsTrueTableAt (g.L.Look.seen l.board.look) l.turn l.memory.table.now;
  none : (ko : Ko) → has l.asked ko ≡ true → (q : ℕ) → q < l.next
      → (set.contains l.candidates q
      && succeeds l.plies (under l.turn ko) (position_on g.L.Look.shows l.fn.board) q) ≡ false;
}

-- how many points are left
abbrev pub decreases-plays : goal.decreases-plays
decreases-plays g l = largest_points - l.next
