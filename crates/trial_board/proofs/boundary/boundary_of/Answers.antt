use Rattle.std.proofs.Common.{◌*◌, arith}
use Rattle.go_rules.specs.Neighbourhood.{neighbourhood_of}
use Rattle.trial_board.proofs.BoundaryLemmas.{Bounds-none, Bounds-jump, Bounds-add, Bounds-all, KnowsLeast-none}
use Rattle.go_base.specs.Views.{alone}
use Rattle.go_base.proofs.PointNeighbourhoods.{close_again, close_point}
use Rattle.go_base.proofs.FloodVisits.{enemy_beside, enemy_close, no_enemy}
use Rattle.go_base.proofs.LookSequences.{Looks-none, Looks-more}
use Rattle.trial_board.proofs.boundary.boundary_of.Goals as goal

-- no string has come
pub enemies-init : goal.enemies-init
enemies-init g c = record {
  looks = c.flood-found.ensures.looks;
  more = Looks-none g.met.V.View.asks_none _ _;
  near = λ pos a.
      let s = g.V.View.rows c.args.board.now in
      let cells = g.V.View.cells c.args.board.now pos in
      g.met.V.View.asks_within _ _ _ _ (c.flood-found.ensures.near pos a)
      (λ q h. close_again s cells (alone c.args.p) q h);
  over = λ pos a. Bounds-none _ _ _ c.new-least.result c.new-least.ensures;
  knows = λ pos a. KnowsLeast-none _ _ c.new-seen.result c.new-least.result c.new-seen.ensures;
}

-- an enemy is on the board
pub add_least-requires : goal.add_least-requires
add_least-requires g c = grind arith

-- the next enemy's string has its least point there
pub enemies-preserved : goal.enemies-preserved
enemies-preserved g c =
    let s = g.V.View.rows c.args.board.now in
    let i = c.enemies.invariant in
    let rows = g.met.V.View.asks_rows _ _ _ i.looks.asked in
    let q = c.in-Some.q in
    let first = c.in-Some.ensures.some in
    let on = c.flood-found.ensures.enemies_on_board q first.2 in
    let one = c.add_least.ensures.looks in
    record {
      looks = Looks-more g.met.V.View.asks_more i.looks one;
      more = Looks-more g.met.V.View.asks_more i.more one;
      near = λ pos a.
          let cells = g.V.View.cells c.args.board.now pos in
          let a1 = g.met.V.View.asks_agrees _ _ _ one.asked pos a in
          let a0 = g.met.V.View.asks_agrees _ _ _ i.more.asked pos a1 in
          let close = rw (rows, i.looks.same pos) at (c.add_least.ensures.near pos a) in
          g.met.V.View.asks_more _ _ _ _ (i.near pos a1)
          (g.met.V.View.asks_within _ _ _ _ close (λ r h.
          close_point s cells (neighbourhood_of s cells (alone c.args.p)) q
          (enemy_close s cells c.args.p q c.flood-found.result.enemies c.requires
          (c.flood-found.ensures.enemies pos a0) first.2) r h));
      over = λ pos a.
          let cells = g.V.View.cells c.args.board.now pos in
          let a1 = g.met.V.View.asks_agrees _ _ _ one.asked pos a in
          let a0 = g.met.V.View.asks_agrees _ _ _ i.more.asked pos a1 in
          let foes = c.flood-found.ensures.enemies pos a0 in
          let its = enemy_beside s cells c.args.p q c.flood-found.result.enemies foes first.2 in
          let adds = rw (rows, i.looks.same pos) at (c.add_least.ensures.adds pos a) in
          Bounds-add s cells c.args.p q _ _
          (Bounds-jump s cells c.args.p c.enemies.next q _ (i.over pos a1)
          (λ k l m beside enemy. no_enemy s cells c.args.p k c.flood-found.result.enemies foes
          (omega (arith, m, on)) (first.3 k l m) beside enemy))
          on its.0 its.1 (adds (i.knows pos a1));
      knows = grind arith;
    }

-- no enemy is left
pub returns-clause-over : goal.returns-clause-over
returns-clause-over g c = λ pos a.
    let s = g.V.View.rows c.args.board.now in
    let cells = g.V.View.cells c.args.board.now pos in
    let a0 = g.met.V.View.asks_agrees _ _ _ c.enemies.invariant.more.asked pos a in
    Bounds-all s cells c.args.p (s * s) c.enemies.least
    (Bounds-jump s cells c.args.p c.enemies.next (s * s) c.enemies.least (c.enemies.invariant.over pos a)
    (λ k l m beside enemy. no_enemy s cells c.args.p k c.flood-found.result.enemies
    (c.flood-found.ensures.enemies pos a0) m (c.in_default.ensures.none k l) beside enemy))
    (omega arith)
