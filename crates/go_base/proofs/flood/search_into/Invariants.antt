use Rattle.std.proofs.Common.{◌≡◌, ℕ, ◌+◌, ◌-◌, ◌*◌, ◌<◌, true}
use Rattle.std.specs.FinSet as set
use Rattle.go_rules.specs.Board.{largest_points}
use Rattle.go_rules.specs.Position.{BoardState}
use Rattle.go_rules.specs.Neighbourhood.{neighbourhood_of}
use Rattle.go_base.specs.Floods.{with_enemies}
use Rattle.go_base.specs.Views.{Looks, anywhere, alone}
use Rattle.go_base.proofs.BoundedSearches.{FloodsUnder}
use Rattle.go_base.proofs.flood.search_into.Given as goal

-- the stones that do not wait have their neighbours where they belong, or enough liberties were seen
abbrev pub invariant-loop-q : goal.invariant-loop-q
invariant-loop-q g l = record {
  looks : Looks g.V.View.cells g.V.View.asks l.fn.board l.board anywhere;
  more : Looks g.V.View.cells g.V.View.asks l.initial.board l.board anywhere;
  over : (pos : BoardState) → g.V.View.agrees l.board pos
      → FloodsUnder g.E.Enemies.asked (g.V.View.rows l.fn.board) (g.V.View.cells l.fn.board pos) l.own l.p l.most
      (with_enemies l.found (g.E.Enemies.met l.enemies)) l.waiting;
  near : (pos : BoardState) → g.V.View.agrees l.board pos
      → g.V.View.asks l.fn.board l.board (neighbourhood_of (g.V.View.rows l.fn.board) (g.V.View.cells l.fn.board pos)
      (alone l.p));
  enemies_on_board : (r : ℕ) → set.contains (g.E.Enemies.met l.enemies) r ≡ true
      → r < g.V.View.rows l.fn.board * g.V.View.rows l.fn.board;
  stones_on_board : (r : ℕ) → set.contains l.found.stones r ≡ true
      → r < g.V.View.rows l.fn.board * g.V.View.rows l.fn.board;
  waits : (r : ℕ) → set.contains l.waiting r ≡ true → set.contains l.found.stones r ≡ true;
}

-- how many points may still come, each of them and each that waits being still to be visited
abbrev pub decreases-loop-q : goal.decreases-loop-q
decreases-loop-q g l = 2 * (largest_points - set.len l.found.stones) + set.len l.waiting
