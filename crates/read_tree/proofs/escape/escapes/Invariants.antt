use Rattle.std.proofs.Common.{◌-◌, ◌*◌, ◌&&◌, ◌||◌}
use Rattle.std.specs.FinSet as set
use Rattle.go_rules.specs.Below.{any_below}
use Rattle.go_rules.specs.Board.{largest_points}
use Rattle.go_rules.specs.Position.{BoardState}
use Rattle.go_base.specs.Facts.{Agrees, Grows, AddsIn}
use Rattle.go_base.specs.Views.{alone, neighbours_of}
use Rattle.trial_board.specs.Trials.{KeepsTrial}
use Rattle.read_tree.proofs.escape.escapes.Given as goal

-- no more was looked at than the target, the known points and their sides
abbrev pub invariant-loop-l : goal.invariant-loop-l
invariant-loop-l g l = record {
  stays : KeepsTrial g.L.Look.shows g.L.Look.seen l.fn.board l.board;
  grows : Grows (g.L.Look.seen l.initial.board.look) (g.L.Look.seen l.board.look);
  near : (pos : BoardState) → Agrees (g.L.Look.seen l.board.look) pos
      → AddsIn (g.L.Look.seen l.fn.board.look) (g.L.Look.seen l.board.look) (λ r. alone l.turn.target r
      || any_below (pos.size * pos.size) (λ k. set.contains l.known k && (alone k r || neighbours_of pos.size k r)));
}

-- how many points are left
abbrev pub decreases-loop-l : goal.decreases-loop-l
decreases-loop-l g l = largest_points - l.next
