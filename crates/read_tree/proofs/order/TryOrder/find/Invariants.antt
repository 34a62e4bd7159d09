use Rattle.std.proofs.Common.{◌-◌, ◌*◌, ◌&&◌}
use Rattle.std.specs.FinSet as set
use Rattle.go_rules.specs.Below.{any_below}
use Rattle.go_rules.specs.Board.{largest_points}
use Rattle.go_rules.specs.Position.{BoardState}
use Rattle.go_base.specs.Facts.{Agrees, AddsIn}
use Rattle.go_base.specs.Views.{neighbours_of}
use Rattle.trial_board.specs.Trials.{KeepsTrial}
use Rattle.read_tree.proofs.order.TryOrder.find.Given as goal

-- no more was looked at than the sides of known liberties
abbrev pub invariant-loop-p : goal.invariant-loop-p
invariant-loop-p g l = record {
  stays : KeepsTrial g.L.Look.shows g.L.Look.seen l.fn.board l.board;
  near : (pos : BoardState) → Agrees (g.L.Look.seen l.board.look) pos → AddsIn (g.L.Look.seen l.fn.board.look)
      (g.L.Look.seen l.board.look)
      (λ r. any_below (pos.size * pos.size) (λ k. set.contains l.known k && neighbours_of pos.size k r));
}

-- how many points are left
abbrev pub decreases-loop-p : goal.decreases-loop-p
decreases-loop-p g l = largest_points - l.next
