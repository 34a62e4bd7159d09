use Rattle.go_rules.specs.Position.{BoardState}
use Rattle.go_base.specs.Views.{Looks, around}
use Rattle.go_base.proofs.WithoutLiberty.{NoneEmpty}
use Rattle.go_base.proofs.without_liberty.has_empty_side.Given as goal

-- none of the sides so far is empty
abbrev pub invariant-loop-side : goal.invariant-loop-side
invariant-loop-side g l = record {
  looks : Looks g.V.View.cells g.V.View.asks l.fn.board l.board (around (g.V.View.rows l.fn.board) l.p);
  over : (pos : BoardState) → g.V.View.agrees l.board pos
      → NoneEmpty (g.V.View.rows l.fn.board) (g.V.View.cells l.fn.board pos) l.p l.side;
}
