-- The empty sides are told first, then the strings at the sides, one after another.
use Rattle.std.proofs.Common.{sym, arith, ◌∙◌}
use Rattle.go_rules.specs.Neighbourhood.{neighbourhood_of}
use Rattle.go_base.specs.Facts.{agrees_before, AddsIn-mono}
use Rattle.go_base.specs.Views.{alone}
use Rattle.trial_board.specs.Trials.{after}
use Rattle.trial_board.proofs.WalkLemmas.{on_agreed}
use Rattle.wider_moves.proofs.SideLemmas.{Walked-side, Walked-off}
use Rattle.read_rules.specs.Candidates.{IsEmptyNeighbour}
use Rattle.read_moves.specs.Reaches.{HasReach, IsOtherLibertyOf, IsReached}
use Rattle.read_moves.proofs.SideLemmas.{sides_near, string_near}
use Rattle.read_moves.proofs.TellLemmas.{IsSoFar, IsLibertyAtSide, SoFar-none, SoFar-skip, SoFar-next, HasReach-more}
use Rattle.read_moves.proofs.TellLemmas.{string_told, so_far_reached, strings_told}
use Rattle.read_moves.proofs.reach.reach_of.Goals as goal
use Rattle.read_moves.proofs.reach.reach_of.Goals.{in-Some, in_default}

-- the empty sides are told
pub loop-side-init : goal.loop-side-init
loop-side-init g c =
    let sides = c.reach_of_sides-reach in
    record {
      stays = sides.ensures.stays;
      near = λ pos a.
          let first = agrees_before sides.ensures.stays.grows a in
          AddsIn-mono (sides.ensures.near pos a) (sides_near pos.size (after pos c.args.board.now.moves).cells c.args.l
          (on_agreed _ _ (g.met.L.Look.sized c.args.board.now.look) first c.requires));
      over = λ pos a.
          let cells = (after pos c.args.board.now.moves).cells in
          SoFar-none (IsEmptyNeighbour pos.size cells c.args.l) (IsLibertyAtSide pos.size cells c.args.c c.args.l)
          sides.result (sides.ensures.over pos a);
    }

-- one more side gave a point, whose string is told, or nothing
pub loop-side-preserved : goal.loop-side-preserved
loop-side-preserved g c =
    let l = c.args.l in
    let side = c.loop-side.side in
    let told = g.met.L.Look.sized c.args.board.now.look in
    elim c.match-neighbour.branch [
      | in-Some w ↦
          let q = w.in-Some.beside in
          let one = w.reach_of_string in
          rw (w.board-is, w.reach-is, w.with-reach.ensures) (Walked-side l side told c.requires c.size-size.ensures
          c.neighbour.ensures.value c.loop-side.invariant (λ s b. neighbourhood_of s b.cells (alone q))
          (λ s b. HasReach (IsOtherLibertyOf s b.cells c.args.c l q) one.result) w.in-Some.is
          (record { stays = one.ensures.stays; near = one.ensures.near; over = one.ensures.over })
          (λ s b is. string_near b.cells is)
          (λ s b is i came. SoFar-next (IsEmptyNeighbour s b.cells l) (IsLibertyAtSide s b.cells c.args.c l) side
          c.loop-side.reach one.result i
          (string_told s b.cells l is.on_board c.args.c side q one.result is.at came)))
      | in_default w ↦ rw (w.board-is, w.reach-is) (Walked-off l side told c.requires c.size-size.ensures
          c.neighbour.ensures.value c.loop-side.invariant w.in_default.not-Some (λ s b none i.
          SoFar-skip (IsEmptyNeighbour s b.cells l) (IsLibertyAtSide s b.cells c.args.c l) side c.loop-side.reach i
          (λ x its. none its.q its.at)))
    ]

-- two points that were told are two that are reached
pub returns-then-is_more-clause-over : goal.returns-then-is_more-clause-over
returns-then-is_more-clause-over g c = λ pos a.
    let i = c.loop-side.invariant in
    let on = on_agreed _ _ (g.met.L.Look.sized c.args.board.now.look) (agrees_before i.stays.grows a) c.requires in
    let cells = (after pos c.args.board.now.moves).cells in
    HasReach-more (IsSoFar (IsEmptyNeighbour pos.size cells c.args.l)
    (IsLibertyAtSide pos.size cells c.args.c c.args.l) c.loop-side.side)
    (IsReached pos.size cells c.args.c c.args.l) c.loop-side.reach (sym c.is_more.ensures ∙ c.if-is_more.true)
    (so_far_reached pos.size cells c.args.l on c.args.c c.loop-side.side) (i.over pos a)

-- all sides were visited
pub returns-clause-over : goal.returns-clause-over
returns-clause-over g c = grind (arith, strings_told, on_agreed)
