-- The string is told by its liberties, where it is of the colour.
use Rattle.std.proofs.Common.{ℕ, ◌≡◌, ◌*◌, ◌<◌, true, List, sym, arith, ◌∙◌}
use Rattle.std.proofs.lemmas.Bool.{both_ways}
use Rattle.std.specs.FinSet as set
use Rattle.std.specs.Ordering.{nat_cmp}
use Rattle.go_rules.specs.declared.Cell.{Cell}
use Rattle.go_rules.specs.declared.Colour.{Colour}
use Rattle.go_rules.specs.Strings.{cell_at, liberty_points, IsLiberty}
use Rattle.go_rules.specs.Position.{BoardState, stone_of}
use Rattle.go_rules.specs.Neighbourhood.{neighbourhood_of}
use Rattle.go_rules.proofs.Cells.{eq_is_same_cell, ne_false_same}
use Rattle.go_rules.proofs.Paths.{same_cell-true, same_cell-from, IsLiberty-from_test, is_liberty-from_fact}
use Rattle.go_base.specs.Facts.{Agrees, AddsIn, agrees_before}
use Rattle.go_base.specs.Views.{alone}
use Rattle.go_base.proofs.PointNeighbourhoods.{close_alone}
use Rattle.trial_board.proofs.WalkLemmas.{on_agreed}
use Rattle.trial_board.specs.Trials.{after}
use Rattle.read_moves.specs.Reaches.{IsOtherMember, IsOtherLibertyOf}
use Rattle.wider_rules.proofs.StringLemmas.{has_liberty}
use Rattle.read_moves.proofs.OtherLiberties.{other_of_three}
use Rattle.read_moves.proofs.TellLemmas.{HasReach-same}
use Rattle.read_moves.proofs.reach.reach_of_string.Given.{Over}
use Rattle.read_moves.proofs.reach.reach_of_string.Goals as goal
use Rattle.read_moves.proofs.reach.reach_of_string.Goals.{After-some_liberties-found}

-- the point is on the board
inside : (g : Over) (c : After-some_liberties-found g) (pos : BoardState)
    → Agrees (g.L.Look.seen c.some_liberties-found.new.self.look) pos → c.args.q < pos.size * pos.size
inside g c pos a = on_agreed _ _ (g.met.L.Look.sized c.args.board.now.look)
    (agrees_before c.cell.ensures.stays.grows (agrees_before c.some_liberties-found.ensures.stays.grows a))
    c.requires.on_board

-- a stone of the colour is there
stone : (g : Over) (c : After-some_liberties-found g) (pos : BoardState)
    → Agrees (g.L.Look.seen c.some_liberties-found.new.self.look) pos
    → cell_at (after pos c.args.board.now.moves).cells c.args.q ≡ stone_of c.args.c
stone g c pos a = grind (arith, same_cell-true, ne_false_same)

-- the stone and its string were looked at
near : (g : Over) (c : After-some_liberties-found g) (pos : BoardState)
    → Agrees (g.L.Look.seen c.some_liberties-found.new.self.look) pos
    → AddsIn (g.L.Look.seen c.args.board.now.look) (g.L.Look.seen c.some_liberties-found.new.self.look)
    (neighbourhood_of pos.size (after pos c.args.board.now.moves).cells (alone c.args.q))
near g c pos a = grind (arith, close_alone, inside)

-- another string reaches nothing
pub returns-then-ne-clause-over : goal.returns-then-ne-clause-over
returns-then-ne-clause-over g c =
    grind (
      arith,
      both_ways c.ne.result,
      eq_is_same_cell c.cell.result c.cell-2.result,
      same_cell-from,
      c.ne.ensures,
      c.cell.ensures.over,
      c.cell-2.ensures,
      c.if-ne.true,
    )

-- its point alone was looked at
pub returns-then-ne-clause-near : goal.returns-then-ne-clause-near
returns-then-ne-clause-near g c = grind (arith, on_agreed, close_alone)

-- of three liberties one is neither l nor the given point
pub returns-then-count-gt-FEW_LIBERTIES-clause-over : goal.returns-then-count-gt-FEW_LIBERTIES-clause-over
returns-then-count-gt-FEW_LIBERTIES-clause-over g c = λ pos a p.
    let d = (goal.at.returns-then-count-gt-FEW_LIBERTIES-clause-over g c).After-some_liberties-found in
    let found = rw c.cell.ensures.stays.moves at (c.some_liberties-found.ensures.over pos a) in
    let cells = (after pos c.args.board.now.moves).cells in
    let many = found.more (omega arith) in
    let x = other_of_three pos.size cells c.args.q c.args.l p (omega (arith, many)) in
    record {
      point = x.0;
      inside = grind (arith, inside g d pos a, stone g d pos a);
      other = x.3;
    }

-- where there are three liberties, the stone and its string were looked at
pub returns-then-count-gt-FEW_LIBERTIES-clause-near : goal.returns-then-count-gt-FEW_LIBERTIES-clause-near
returns-then-count-gt-FEW_LIBERTIES-clause-near g c =
    near g (goal.at.returns-then-count-gt-FEW_LIBERTIES-clause-near g c).After-some_liberties-found

-- the members of the set of its liberties are the liberties of the string of q
module _ (s : ℕ) (cells : List Cell) (c : Colour) (l q : ℕ) (on : q < s * s) (its : cell_at cells q ≡ stone_of c)
    (found : set.FinSet nat_cmp) (all : found ≡ liberty_points s cells q) where
  -- the set has the liberties
  has : (x : ℕ) → set.contains found x ≡ true → IsLiberty s cells q x
  has x h = IsLiberty-from_test s cells q x
      (sym (has_liberty s cells q x found all) ∙ h)

  -- another member is another liberty
  to_liberty : (x : ℕ) → IsOtherMember found l x → IsOtherLibertyOf s cells c l q x
  to_liberty x i = record {
    its = record { on_board = on; stone = its; liberty = has x i.member };
    other = i.other;
  }

  -- and back
  to_member : (x : ℕ) → IsOtherLibertyOf s cells c l q x → IsOtherMember found l x
  to_member x i = record {
    member = has_liberty s cells q x found all ∙ is_liberty-from_fact s cells q x on i.its.liberty;
    other = i.other;
  }

-- what was found are its liberties
pub returns-clause-over : goal.returns-clause-over
returns-clause-over g c = λ pos a.
    let d = (goal.at.returns-clause-over g c).After-some_liberties-found in
    let found = rw c.cell.ensures.stays.moves at (c.some_liberties-found.ensures.over pos a) in
    let cells = (after pos c.args.board.now.moves).cells in
    let points = c.some_liberties-found.result in
    let all = found.all (omega arith) in
    let on = inside g d pos a in
    let its = stone g d pos a in
    HasReach-same (IsOtherMember points c.args.l) (IsOtherLibertyOf pos.size cells c.args.c c.args.l c.args.q)
    c.reach_within.result
    (to_liberty pos.size cells c.args.c c.args.l c.args.q on its points all)
    (to_member pos.size cells c.args.c c.args.l c.args.q on its points all) c.reach_within.ensures

-- where its liberties are few, the stone and its string were looked at
pub returns-clause-near : goal.returns-clause-near
returns-clause-near g c = near g (goal.at.returns-clause-near g c).After-some_liberties-found
