use Rattle.std.proofs.Common.{◌-◌}
use Rattle.go_rules.specs.Board.{largest_points}
use Rattle.go_rules.specs.Position.{BoardState}
use Rattle.go_rules.specs.Neighbourhood.{neighbourhood_of}
use Rattle.trial_board.specs.Boundary.{KnowsLeast}
use Rattle.trial_board.proofs.BoundaryLemmas.{Bounds}
use Rattle.go_base.specs.Views.{Looks, anywhere, alone}
use Rattle.trial_board.proofs.boundary.boundary_of.Given as goal

-- the strings of the enemies below the next point have their least points there
abbrev pub invariant-enemies : goal.invariant-enemies
invariant-enemies g l = record {
  looks : Looks g.V.View.cells g.V.View.asks l.fn.board l.board anywhere;
  more : Looks g.V.View.cells g.V.View.asks l.initial.board l.board anywhere;
  near : (pos : BoardState) → g.V.View.agrees l.board pos
      → g.V.View.asks l.fn.board l.board (neighbourhood_of (g.V.View.rows l.fn.board) (g.V.View.cells l.fn.board pos)
      (neighbourhood_of (g.V.View.rows l.fn.board) (g.V.View.cells l.fn.board pos) (alone l.p)));
  over : (pos : BoardState) → g.V.View.agrees l.board pos
      → Bounds (g.V.View.rows l.fn.board) (g.V.View.cells l.fn.board pos) l.p l.next l.least;
  knows : (pos : BoardState) → g.V.View.agrees l.board pos
      → KnowsLeast (g.V.View.rows l.fn.board) (g.V.View.cells l.fn.board pos) l.seen l.least;
}

-- how many points are left
abbrev pub decreases-enemies : goal.decreases-enemies
decreases-enemies g l = largest_points - l.next
