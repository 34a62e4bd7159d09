use Rattle.std.proofs.Common.{◌-◌}
use Rattle.go_rules.specs.Board.{largest_points}
use Rattle.go_rules.specs.Position.{BoardState}
use Rattle.go_base.specs.Views.{nowhere}
use Rattle.go_base.proofs.PutPoints.{PutOn}
use Rattle.go_base.proofs.capture.put_all.Given as goal

-- the cell was put on the members below the next point
abbrev pub invariant-loop-q : goal.invariant-loop-q
invariant-loop-q g l = record {
  asks : g.V.View.asks l.initial.board l.board nowhere;
  over : (pos : BoardState) → g.V.View.agrees l.board pos
      → PutOn l.cell l.points (g.V.View.cells l.initial.board pos) (g.V.View.cells l.board pos) l.next;
}

-- how many points are left
abbrev pub decreases-loop-q : goal.decreases-loop-q
decreases-loop-q g l = largest_points - l.next
