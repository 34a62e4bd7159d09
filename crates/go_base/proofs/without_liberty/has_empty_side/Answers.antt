use Rattle.std.proofs.Common.{◌≡◌, sym, refl, ◌∙◌, arith, Some}
use Rattle.go_base.specs.Sides.{neighbour_at}
use Rattle.go_base.proofs.FloodResults.{at_side}
use Rattle.go_base.proofs.LookSequences.{Looks-none, Looks-more, Looks-within}
use Rattle.go_base.proofs.WithoutLiberty.{NoneEmpty-full, NoneEmpty-all, empty_found}
use Rattle.go_base.proofs.without_liberty.has_empty_side.Given.{Over}
use Rattle.go_base.proofs.without_liberty.has_empty_side.Goals as goal
use Rattle.go_base.proofs.without_liberty.has_empty_side.Goals.{Then-is_empty_at, in-Some+else-is_empty_at, in_default}

-- before the first side nothing was looked at
pub loop-side-init : goal.loop-side-init
loop-side-init g c = record { looks = Looks-none g.met.V.View.asks_none _ _; over = λ pos a k l. absurd (omega arith) }

-- a side of the point is on the board
pub is_empty_at-requires : goal.is_empty_at-requires
is_empty_at-requires g c = grind arith

-- what the side gives
side_is : (g : Over) (c : Then-is_empty_at g)
    → neighbour_at (g.V.View.rows c.args.board.now) c.args.p c.loop-side.side ≡ Some c.in-Some.r
side_is g c = grind arith

-- an empty neighbour ends the search
pub returns-then-is_empty_at-clause-looks : goal.returns-then-is_empty_at-clause-looks
returns-then-is_empty_at-clause-looks g c =
    let s = g.V.View.rows c.args.board.now in
    Looks-more g.met.V.View.asks_more c.loop-side.invariant.looks
    (Looks-within g.met.V.View.asks_within c.is_empty_at.ensures.looks
    (at_side s c.args.p c.loop-side.side c.in-Some.r c.requires (side_is g c)))

-- the point has an empty neighbour
pub returns-then-is_empty_at-clause-over : goal.returns-then-is_empty_at-clause-over
returns-then-is_empty_at-clause-over g c = grind (arith, empty_found, side_is)

-- one more side is not empty, or off the board
pub loop-side-preserved : goal.loop-side-preserved
loop-side-preserved g c =
    let s = g.V.View.rows c.args.board.now in
    let p = c.args.p in
    let side = c.loop-side.side in
    let i = c.loop-side.invariant in
    let here : neighbour_at s p side ≡ c.neighbour.result = sym (c.neighbour.ensures.value
    ∙ rw (c.new-spot.ensures.point, c.new-spot.ensures.size, c.size.ensures) refl) in
    elim c.match-neighbour.branch [
      | in-Some+else-is_empty_at w ↦
          let one = Looks-within g.met.V.View.asks_within w.is_empty_at.ensures.looks
          (at_side s p side w.in-Some.r c.requires (here ∙ w.in-Some.is)) in
          record {
            looks = rw w.board-is (Looks-more g.met.V.View.asks_more i.looks one);
            over = λ pos a.
                let seen = rw w.board-is at a in
                NoneEmpty-full s (g.V.View.cells c.args.board.now pos) p side w.in-Some.r
                (i.over pos (g.met.V.View.asks_agrees _ _ _ one.asked pos seen)) (here ∙ w.in-Some.is)
                (sym ((rw (i.looks.same pos) at (w.is_empty_at.ensures.over pos seen))) ∙ w.if-is_empty_at.false);
          }
      | in_default w ↦ grind arith
    ]

-- no side was empty
pub returns-clause-over : goal.returns-clause-over
returns-clause-over g c = λ pos a.
    sym (NoneEmpty-all (g.V.View.rows c.args.board.now) (g.V.View.cells c.args.board.now pos) c.args.p c.loop-side.side
    c.requires (omega arith) (c.loop-side.invariant.over pos a))
