-- What is reached tells what a quiet play leaves, and a play that takes something leaves nothing that was empty.
use Rattle.std.proofs.Common.{◌≡◌, ℕ, ◌*◌, ◌<◌, ◌||◌, Bool, true, false, eqb, ap, sym, subst, refl, inl, inr, ◌∙◌}
use Rattle.std.proofs.Common.{arith}
use Rattle.std.proofs.lemmas.Bool.{cases_Bool, both_ways}
use Rattle.std.specs.FinSet as set
use Rattle.go_rules.specs.declared.Cell.TheVariants.{Empty}
use Rattle.go_rules.specs.declared.Colour.{Colour}
use Rattle.go_rules.specs.Position.{BoardState}
use Rattle.go_rules.specs.Strings.{cell_at}
use Rattle.go_rules.proofs.Cells.{eq_is_same_cell, ne_false_same}
use Rattle.go_rules.proofs.Paths.{same_cell-true, same_cell-from}
use Rattle.go_rules.proofs.Sets.{contains-insert_nat}
use Rattle.go_base.specs.Facts.{Agrees, AddsIn, agrees_before, AddsIn-trans, AddsIn-mono}
use Rattle.go_base.proofs.PointNeighbourhoods.{close_again, close_alone}
use Rattle.trial_board.specs.Overlays.{neighbourhood_twice}
use Rattle.go_rules.proofs.Tests.{or_comm}
use Rattle.trial_board.proofs.WalkLemmas.{on_agreed}
use Rattle.trial_board.specs.Trials.{after, Stays-trans}
use Rattle.trial_board.proofs.AfterLemmas.{size-after}
use Rattle.read_moves.specs.Steps.{AllLive, is_left}
use Rattle.read_moves.specs.Reaches.{Reaches}
use Rattle.read_moves.specs.declared.reach.Reach.{Reach}
use Rattle.read_moves.proofs.ReachLemmas.{left_vacant, left_lives, unless_one, quiet_one}
use Rattle.read_moves.proofs.moves.add_backfilling_at.Given.{Over}
use Rattle.read_moves.proofs.moves.add_backfilling_at.Goals as goal
use Rattle.read_moves.proofs.moves.add_backfilling_at.Goals.{After-reach_of}

-- where nothing is left nothing comes
or_none : (b x : Bool) → x ≡ false → b ≡ (b || x)
or_none true x e = refl
or_none false x e = sym e

-- what leads to nothing is not so
refuted : (b : Bool) → (b ≡ true → ⊥) → b ≡ false
refuted b h = elim (cases_Bool b) [ inl t ↦ absurd (h t) | inr f ↦ f ]

-- what is reached, on the position's own size
at_size : (here : BoardState) (s : ℕ) (c : Colour) (l : ℕ) (r : Reach) → here.size ≡ s → Reaches s here.cells c l r
    → Reaches here.size here.cells c l r
at_size here s c l r e h = subst (λ n. Reaches n here.cells c l r) (sym e) h

-- no play is legal at a stone
pub returns-then-ne-clause-over : goal.returns-then-ne-clause-over
returns-then-ne-clause-over g c =
    grind (arith, or_none, refuted, both_ways, eq_is_same_cell, same_cell-from, left_vacant)

-- the point alone was looked at
pub returns-then-ne-clause-near : goal.returns-then-ne-clause-near
returns-then-ne-clause-near g c = λ pos a.
    let cells = (after pos c.args.board.now.moves).cells in
    let on = on_agreed _ _ (g.met.L.Look.sized c.args.board.now.look)
    (agrees_before c.cell.ensures.stays.grows a) c.requires in
    AddsIn-mono c.cell.ensures.near (λ r h. close_again pos.size cells _ r (close_alone pos.size cells c.args.l r on h))

-- What is reached at an empty point.
module _ (g : Over) (c : After-reach_of g) (pos : BoardState)
    (a : Agrees (g.L.Look.seen c.reach_of.new.board.look) pos) where
  -- the position after the trial moves
  abbrev here : BoardState
  here = after pos c.args.board.now.moves

  -- what was seen when the point was looked at agrees too
  before : Agrees (g.L.Look.seen c.cell.new.self.look) pos
  before = agrees_before c.reach_of.ensures.stays.grows a

  -- the point is on the board
  on_board : c.args.l < pos.size * pos.size
  on_board = on_agreed _ _ (g.met.L.Look.sized c.args.board.now.look) (agrees_before c.cell.ensures.stays.grows before)
      c.requires

  -- and on that of the position after the trial moves
  inside : c.args.l < here.size * here.size
  inside = subst (λ n. c.args.l < n * n) (sym (size-after pos c.args.board.now.moves)) on_board

  -- the point is empty
  vacant : cell_at here.cells c.args.l ≡ Empty
  vacant = sym (c.cell.ensures.over pos before)
      ∙ same_cell-true _ _ (ne_false_same c.cell.result Empty c.ne.result c.ne.ensures c.if-ne.false)

  -- what is reached
  reached : Reaches here.size here.cells c.args.c c.args.l c.reach_of.result
  reached = at_size here pos.size c.args.c c.args.l c.reach_of.result (size-after pos c.args.board.now.moves)
      (rw c.cell.ensures.stays.moves at (c.reach_of.ensures.over pos a))

  -- each look is near the point
  looked : AddsIn (g.L.Look.seen c.args.board.now.look) (g.L.Look.seen c.reach_of.new.board.look)
      (neighbourhood_twice pos.size here.cells c.args.l)
  looked = AddsIn-trans (AddsIn-mono c.cell.ensures.near
      (λ r h. close_again pos.size here.cells _ r (close_alone pos.size here.cells c.args.l r on_board h)))
      (rw c.cell.ensures.stays.moves at (c.reach_of.ensures.near pos a))

-- with nothing, or with two points, nothing comes
pub returns-in-Nothing : goal.returns-in-Nothing
returns-in-Nothing g c =
    let d = (goal.at.returns-in-Nothing g c).After-reach_of in
    let first = c.cell.ensures.stays in
    let last = c.reach_of.ensures.stays in
    record {
      stays = Stays-trans first last;
      over = λ pos a p. or_none (set.contains c.args.found.now p) _
          (unless_one (here g d pos a) c.args.c c.args.l p c.reach_of.result (inside g d pos a)
          (c.cell.ensures.sound pos (before g d pos a)) (vacant g d pos a) c.in-Nothing.is (reached g d pos a));
      near = λ pos a. looked g d pos a;
    }

-- a quiet play that reaches one point leaves it
pub returns-then-is_quiet-clause-over : goal.returns-then-is_quiet-clause-over
returns-then-is_quiet-clause-over g c = λ pos a p.
    let d = (goal.at.returns-then-is_quiet-clause-over g c).After-reach_of in
    let a1 = agrees_before c.is_quiet.ensures.stays.grows a in
    let place = here g d pos a1 in
    let one = rw c.in-Only.is at (reached g d pos a1) in
    let moves = c.reach_of.ensures.stays.moves ∙ c.cell.ensures.stays.moves in
    let live = subst (λ n. AllLive n place.cells c.args.c c.args.l) (sym (size-after pos c.args.board.now.moves))
    (rw moves at (c.is_quiet.ensures.over pos a c.if-is_quiet.true)) in
    ap (λ t. set.contains t p) c.add.ensures ∙ contains-insert_nat c.args.found.now c.in-Only.p p
    ∙ or_comm (eqb p c.in-Only.p) (set.contains c.args.found.now p)
    ∙ ap (λ b. set.contains c.args.found.now p || b)
    (sym (quiet_one place c.args.c c.args.l (inside g d pos a1)
    (record { sound = c.cell.ensures.sound pos (before g d pos a1); is_empty = vacant g d pos a1; live = live })
    c.in-Only.p one.0 one.1 p))

-- a play that takes something leaves nothing that was empty
pub returns-else-is_quiet-clause-over : goal.returns-else-is_quiet-clause-over
returns-else-is_quiet-clause-over g c = λ pos a p.
    let d = (goal.at.returns-else-is_quiet-clause-over g c).After-reach_of in
    let a1 = agrees_before c.is_quiet.ensures.stays.grows a in
    let place = here g d pos a1 in
    let moves = c.reach_of.ensures.stays.moves ∙ c.cell.ensures.stays.moves in
    let dies = rw moves at (c.is_quiet.ensures.dies pos a c.if-is_quiet.false) in
    or_none (set.contains c.args.found.now p) _ (refuted (is_left place c.args.c c.args.l p) (λ left.
    dies (subst (λ n. AllLive n place.cells c.args.c c.args.l) (size-after pos c.args.board.now.moves)
    (left_lives place c.args.c c.args.l p (inside g d pos a1)
    (c.cell.ensures.sound pos (before g d pos a1)).cells left))))

-- where the one point that is reached came, each look is near the point
pub returns-then-is_quiet-clause-near : goal.returns-then-is_quiet-clause-near
returns-then-is_quiet-clause-near g c = λ pos a.
    let d = (goal.at.returns-then-is_quiet-clause-near g c).After-reach_of in
    AddsIn-trans (looked g d pos (agrees_before c.is_quiet.ensures.stays.grows a))
    (rw (c.reach_of.ensures.stays.moves ∙ c.cell.ensures.stays.moves) at (c.is_quiet.ensures.near pos a))

-- and where the play takes something
pub returns-else-is_quiet-clause-near : goal.returns-else-is_quiet-clause-near
returns-else-is_quiet-clause-near g c = λ pos a.
    let d = (goal.at.returns-else-is_quiet-clause-near g c).After-reach_of in
    AddsIn-trans (looked g d pos (agrees_before c.is_quiet.ensures.stays.grows a))
    (rw (c.reach_of.ensures.stays.moves ∙ c.cell.ensures.stays.moves) at (c.is_quiet.ensures.near pos a))
