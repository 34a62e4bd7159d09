-- The neighbours came, side by side.
use Rattle.std.proofs.Common.{◌≡◌, cond, arith}
use Rattle.std.specs.FinSet as set
use Rattle.go_rules.specs.Strings.{cell_at, same_cell}
use Rattle.go_base.specs.Facts.{agrees_before}
use Rattle.go_base.specs.Views.{alone}
use Rattle.trial_board.specs.Trials.{after}
use Rattle.trial_board.proofs.WalkLemmas.{Walked-none, on_agreed}
use Rattle.wider_moves.proofs.SideLemmas.{AddsSides-none, AddsSides-visit, AddsSides-all, side_near, Walked-side}
use Rattle.wider_moves.proofs.sides.add_sides.Goals as goal
use Rattle.wider_moves.proofs.sides.add_sides.Goals.{in-Some, in_default}

-- no side was visited
pub loop-side-init : goal.loop-side-init
loop-side-init g c = Walked-none (λ pos. AddsSides-none pos.size (after pos c.args.board.now.moves).cells c.args.cell
    c.args.l c.args.found.now)

-- one more side gave a point, which came where the cell stands there, or nothing
pub loop-side-preserved : goal.loop-side-preserved
loop-side-preserved g c =
    let side = c.loop-side.side in
    let cell = c.args.cell in
    let old = c.loop-side.found in
    let told = g.met.L.Look.sized c.args.board.now.look in
    elim c.match-neighbour.branch [
      | in-Some w ↦ rw (w.board-is, w.found-is) (Walked-side c.args.l side told c.requires c.size-size.ensures
          c.neighbour.ensures.value c.loop-side.invariant (λ s b. alone w.in-Some.q) (λ s b. w.add_where.new.found
          ≡ cond (same_cell (cell_at b.cells w.in-Some.q) cell) (set.insert old w.in-Some.q) old) w.in-Some.is
          (record {
            stays = w.add_where.ensures.stays;
            near = λ pos a. w.add_where.ensures.near;
            over = w.add_where.ensures.over;
          })
          (λ s b is. side_near is)
          (λ s b is i came. AddsSides-visit s b.cells cell c.args.l side w.in-Some.q c.args.found.now old
          w.add_where.new.found i is came))
      | in_default w ↦ grind arith
    ]

-- all sides were visited
pub returns-clause-over : goal.returns-clause-over
returns-clause-over g c = λ pos a.
    let i = c.loop-side.invariant in
    AddsSides-all pos.size (after pos c.args.board.now.moves).cells c.args.cell c.args.l c.loop-side.side
    c.args.found.now c.loop-side.found (i.over pos a)
    (on_agreed _ _ (g.met.L.Look.sized c.args.board.now.look) (agrees_before i.stays.grows a) c.requires) (omega arith)
