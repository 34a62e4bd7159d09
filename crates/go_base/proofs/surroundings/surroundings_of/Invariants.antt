use Rattle.std.proofs.Common.{◌-◌}
use Rattle.go_rules.specs.Board.{largest_points}
use Rattle.go_rules.specs.Position.{BoardState}
use Rattle.go_rules.specs.Neighbourhood.{neighbourhood_of}
use Rattle.go_base.specs.Bits.{marked}
use Rattle.go_base.specs.Surroundings.{KnowsLast}
use Rattle.go_base.specs.Views.{Looks, anywhere, alone}
use Rattle.go_base.proofs.LastLiberties.{Lasts}
use Rattle.go_base.proofs.surroundings.surroundings_of.Given as goal

-- the strings of the enemies below the next point have their one liberties there
abbrev pub invariant-loop-q : goal.invariant-loop-q
invariant-loop-q g l = record {
  looks : Looks g.V.View.cells g.V.View.asks l.fn.board l.board anywhere;
  more : Looks g.V.View.cells g.V.View.asks l.initial.board l.board anywhere;
  near : (pos : BoardState) → g.V.View.agrees l.board pos
      → g.V.View.asks l.fn.board l.board (neighbourhood_of (g.V.View.rows l.fn.board) (g.V.View.cells l.fn.board pos)
      (neighbourhood_of (g.V.View.rows l.fn.board) (g.V.View.cells l.fn.board pos) (alone l.p)));
  over : (pos : BoardState) → g.V.View.agrees l.board pos
      → Lasts (g.V.View.rows l.fn.board) (g.V.View.cells l.fn.board pos) l.p l.next l.last_liberties;
  knows : (pos : BoardState) → g.V.View.agrees l.board pos
      → KnowsLast (g.V.View.rows l.fn.board) (g.V.View.cells l.fn.board pos) (marked l.seen) l.last_liberties;
}

-- how many points are left
abbrev pub decreases-loop-q : goal.decreases-loop-q
decreases-loop-q g l = largest_points - l.next
