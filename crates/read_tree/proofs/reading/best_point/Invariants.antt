use Rattle.std.proofs.Common.{◌≡◌, ◌-◌, ◌<◌, suc, ◌&&◌, nat_lt, ◌↔◌, IsNone, IfSome}
use Rattle.std.specs.FinSet as set
use Rattle.go_rules.specs.Board.{largest_points}
use Rattle.go_rules.specs.Position.{BoardState}
use Rattle.go_base.specs.Facts.{Agrees, Grows}
use Rattle.go_base.specs.Views.{nowhere}
use Rattle.trial_board.specs.Trials.{KeepsTrial, after}
use Rattle.read_tree.specs.Allowances.{all_three}
use Rattle.read_rules.specs.GoodMoves.{IsOnBoard}
use Rattle.read_tree.specs.Steps.{IsBest}
use Rattle.read_tree.specs.Table.{IsTrueTableAt}
use Rattle.read_tree.specs.Walk.{LooksNear}
use Rattle.read_tree.proofs.reading.best_point.Given as goal

-- the best of the candidates before the next one, on any position that agrees
abbrev pub invariant-loop-p : goal.invariant-loop-p
invariant-loop-p g l = record {
  stays : KeepsTrial g.L.Look.shows g.L.Look.seen l.fn.board l.board;
  grows : Grows (g.L.Look.seen l.initial.board.look) (g.L.Look.seen l.board.look);
  code : l.best.code < 3;
  none : IsNone l.best.at ↔ (l.best.code ≡ 0);
  on_board : IfSome l.best.at (IsOnBoard (g.L.Look.shows l.fn.board.look).size);
  table : IsTrueTableAt (g.L.Look.seen l.board.look) l.turn l.memory.table.now;
  near : LooksNear g.L.Look.seen l.fn.board l.board (suc l.plies) l.turn all_three;
  best : (pos : BoardState) → Agrees (g.L.Look.seen l.board.look) pos
      → IsBest l.plies l.turn (after pos l.fn.board.moves) nowhere l.fn.first
      → IsBest l.plies l.turn (after pos l.fn.board.moves) (λ q. nat_lt q l.next && set.contains l.candidates q) l.best;
}

-- how many points are left
abbrev pub decreases-loop-p : goal.decreases-loop-p
decreases-loop-p g l = largest_points - l.next
