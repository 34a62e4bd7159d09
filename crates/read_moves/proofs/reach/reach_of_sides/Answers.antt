-- The sides of l, one after another.
use Rattle.std.proofs.Common.{◌≡◌, cond, arith}
use Rattle.go_rules.specs.declared.Cell.TheVariants.{Empty}
use Rattle.go_rules.specs.Strings.{cell_at, same_cell}
use Rattle.go_base.specs.Facts.{agrees_before}
use Rattle.go_base.specs.Views.{alone}
use Rattle.trial_board.specs.Trials.{after}
use Rattle.trial_board.proofs.WalkLemmas.{on_agreed}
use Rattle.wider_moves.proofs.SideLemmas.{side_near, Walked-side, Walked-off}
use Rattle.read_moves.specs.declared.reach.Reach.TheVariants.{Nothing, Only}
use Rattle.read_moves.proofs.TellLemmas.{IsEmptySide, Nowhere, SoFar-skip, SoFar-next, side_told, sides_told}
use Rattle.read_moves.proofs.reach.reach_of_sides.Goals as goal
use Rattle.read_moves.proofs.reach.reach_of_sides.Goals.{in-Some, in_default}

-- one more side gave a point, which is told where it is empty, or nothing
pub loop-side-preserved : goal.loop-side-preserved
loop-side-preserved g c =
    let l = c.args.l in
    let side = c.loop-side.side in
    let told = g.met.L.Look.sized c.args.board.now.look in
    elim c.match-neighbour.branch [
      | in-Some w ↦
          let q = w.in-Some.q in
          let one = w.reach_of_side in
          rw (w.board-is, w.reach-is, w.with-reach.ensures) (Walked-side l side told c.requires c.size-size.ensures
          c.neighbour.ensures.value c.loop-side.invariant (λ s b. alone q)
          (λ s b. one.result ≡ cond (same_cell (cell_at b.cells q) Empty) (Only q) Nothing) w.in-Some.is
          (record { stays = one.ensures.stays; near = λ pos a. one.ensures.near; over = one.ensures.over })
          (λ s b is. side_near is)
          (λ s b is i came. SoFar-next Nowhere (IsEmptySide s b.cells l) side c.loop-side.reach one.result i
          (side_told s b.cells l is.on_board side q one.result is.at came)))
      | in_default w ↦ rw (w.board-is, w.reach-is) (Walked-off l side told c.requires c.size-size.ensures
          c.neighbour.ensures.value c.loop-side.invariant w.in_default.not-Some (λ s b none i.
          SoFar-skip Nowhere (IsEmptySide s b.cells l) side c.loop-side.reach i (λ x its. none x its.at)))
    ]

-- no side was visited
pub loop-side-init : goal.loop-side-init
loop-side-init g c = grind arith

-- all sides were visited
pub returns-clause-over : goal.returns-clause-over
returns-clause-over g c = λ pos a.
    let i = c.loop-side.invariant in
    sides_told pos.size (after pos c.args.board.now.moves).cells c.args.l
    (on_agreed _ _ (g.met.L.Look.sized c.args.board.now.look) (agrees_before i.stays.grows a) c.requires)
    c.loop-side.side c.loop-side.reach (omega arith) (i.over pos a)
