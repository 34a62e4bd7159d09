-- The enemy strings at the sides, one after another.
use Rattle.std.proofs.Common.{◌≡◌, sym, subst, arith, ◌∙◌, Some}
use Rattle.go_rules.specs.Neighbourhood.{neighbourhood_of}
use Rattle.go_rules.specs.Position.{BoardState}
use Rattle.go_base.specs.Facts.{Agrees, agrees_before, same_size, AddsIn-trans, AddsIn-mono}
use Rattle.go_base.specs.Views.{alone}
use Rattle.go_base.proofs.SidesOfPoints.{neighbour_at-near}
use Rattle.trial_board.specs.Trials.{after}
use Rattle.trial_board.proofs.WalkLemmas.{on_agreed}
use Rattle.wider_moves.proofs.SideLemmas.{IsSide, side_found, Walked-side, Walked-off}
use Rattle.read_moves.specs.Steps.{LivesWithout}
use Rattle.read_moves.proofs.LiveLemmas.{LiveAtSides-next, LiveAtSides-all}
use Rattle.read_moves.proofs.SideLemmas.{string_near}
use Rattle.read_moves.proofs.quiet.is_quiet.Given.{Over}
use Rattle.read_moves.proofs.quiet.is_quiet.Goals as goal
use Rattle.read_moves.proofs.quiet.is_quiet.Goals.{After-lives_without, in-Some+else-not-lives_without, in_default}

-- the side at which the search ended
last_side : (g : Over) (c : After-lives_without g) (pos : BoardState)
    → Agrees (g.L.Look.seen c.lives_without.new.board.look) pos
    → IsSide pos.size c.args.l c.loop-side.side c.in-Some.beside
last_side g c pos a =
    let first = agrees_before c.loop-side.invariant.stays.grows (agrees_before c.lives_without.ensures.stays.grows a) in
    side_found pos.size c.args.l c.loop-side.side c.in-Some.beside
    (same_size (g.met.L.Look.sized c.args.board.now.look) first) c.requires c.size-size.ensures
    c.neighbour.ensures.value c.in-Some.is

-- an enemy string that has no other liberty is taken
pub returns-then-not-lives_without-clause-dies : goal.returns-then-not-lives_without-clause-dies
returns-then-not-lives_without-clause-dies g c = λ pos a f live.
    let d = (goal.at.returns-then-not-lives_without-clause-dies g c).After-lives_without in
    let here = last_side g d pos a in
    let beside = neighbour_at-near pos.size c.args.l c.loop-side.side c.in-Some.beside here.on_board here.at in
    (rw c.loop-side.invariant.stays.moves at (c.lives_without.ensures.dies pos a c.if-not-lives_without.true))
    (live c.in-Some.beside beside.0 beside.1)

-- up to that enemy string each look is near the point
pub returns-then-not-lives_without-clause-near : goal.returns-then-not-lives_without-clause-near
returns-then-not-lives_without-clause-near g c = λ pos a.
    let d = (goal.at.returns-then-not-lives_without-clause-near g c).After-lives_without in
    let i = c.loop-side.invariant in
    AddsIn-trans (i.near pos (agrees_before c.lives_without.ensures.stays.grows a))
    (AddsIn-mono (rw i.stays.moves at (c.lives_without.ensures.near pos a))
    (string_near (after pos c.args.board.now.moves).cells (last_side g d pos a)))

-- one more side has a string that lives, or none
pub loop-side-preserved : goal.loop-side-preserved
loop-side-preserved g c =
    let l = c.args.l in
    let side = c.loop-side.side in
    let told = g.met.L.Look.sized c.args.board.now.look in
    elim c.match-neighbour.branch [
      | in-Some+else-not-lives_without w ↦
          let q = w.in-Some.beside in
          let one = w.lives_without in
          rw w.board-is (Walked-side l side told c.requires c.size-size.ensures c.neighbour.ensures.value
          c.loop-side.invariant (λ s b. neighbourhood_of s b.cells (alone q))
          (λ s b. LivesWithout s b.cells c.args.c l q) w.in-Some.is
          (record {
            stays = one.ensures.stays;
            near = one.ensures.near;
            over = λ pos a. one.ensures.over pos a w.if-not-lives_without.false;
          })
          (λ s b is. string_near b.cells is)
          (λ s b is i came. LiveAtSides-next s b.cells c.args.c l side i (λ x at. subst (LivesWithout s b.cells c.args.c
          l) (let same : Some q ≡ Some x = sym is.at ∙ at in cc) came)))
      | in_default w ↦ rw w.board-is (Walked-off l side told c.requires c.size-size.ensures
          c.neighbour.ensures.value c.loop-side.invariant w.in_default.not-Some (λ s b none i.
          LiveAtSides-next s b.cells c.args.c l side i (λ q at. absurd (none q at))))
    ]

-- all sides were visited
pub returns-clause-over : goal.returns-clause-over
returns-clause-over g c = λ pos a t.
    let i = c.loop-side.invariant in
    LiveAtSides-all pos.size (after pos c.args.board.now.moves).cells c.args.c c.args.l c.loop-side.side
    (i.over pos a) (on_agreed _ _ (g.met.L.Look.sized c.args.board.now.look) (agrees_before i.stays.grows a) c.requires)
    (omega arith)
