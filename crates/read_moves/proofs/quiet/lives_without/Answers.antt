-- The string has another liberty, where it is of the other colour.
use Rattle.std.proofs.Common.{◌≡◌, ℕ, ◌*◌, ◌<◌, true, Option, Some, None, IfSome, IfNone, is_some, false, sym}
use Rattle.std.proofs.Common.{arith, ◌∙◌}
use Rattle.go_rules.specs.Position.{BoardState, other, stone_of}
use Rattle.go_rules.specs.Strings.{cell_at}
use Rattle.go_rules.specs.Neighbourhood.{neighbourhood_of}
use Rattle.go_rules.proofs.Cells.{ne_false_same}
use Rattle.go_rules.proofs.Paths.{same_cell-true, IsLiberty-from_test, is_liberty-from_fact}
use Rattle.go_base.specs.Facts.{Agrees, AddsIn, agrees_before}
use Rattle.go_base.specs.Views.{alone}
use Rattle.go_base.proofs.PointNeighbourhoods.{close_alone}
use Rattle.trial_board.proofs.WalkLemmas.{on_agreed}
use Rattle.trial_board.specs.Trials.{after}
use Rattle.wider_rules.proofs.StringLemmas.{has_liberty}
use Rattle.read_moves.proofs.OtherLiberties.{other_of_two}
use Rattle.read_moves.proofs.quiet.lives_without.Given.{Over}
use Rattle.read_moves.proofs.quiet.lives_without.Goals as goal
use Rattle.read_moves.proofs.quiet.lives_without.Goals.{After-some_liberties-found}

-- the point is on the board
inside : (g : Over) (c : After-some_liberties-found g) (pos : BoardState)
    → Agrees (g.L.Look.seen c.some_liberties-found.new.self.look) pos → c.args.q < pos.size * pos.size
inside g c pos a = on_agreed _ _ (g.met.L.Look.sized c.args.board.now.look)
    (agrees_before c.cell.ensures.stays.grows (agrees_before c.some_liberties-found.ensures.stays.grows a))
    c.requires.on_board

-- an enemy stone is there
enemy : (g : Over) (c : After-some_liberties-found g) (pos : BoardState)
    → Agrees (g.L.Look.seen c.some_liberties-found.new.self.look) pos
    → cell_at (after pos c.args.board.now.moves).cells c.args.q ≡ stone_of (other c.args.c)
enemy g c pos a = grind (arith, same_cell-true, ne_false_same)

-- the stone and its string were looked at
near : (g : Over) (c : After-some_liberties-found g) (pos : BoardState)
    → Agrees (g.L.Look.seen c.some_liberties-found.new.self.look) pos
    → AddsIn (g.L.Look.seen c.args.board.now.look) (g.L.Look.seen c.some_liberties-found.new.self.look)
    (neighbourhood_of pos.size (after pos c.args.board.now.moves).cells (alone c.args.q))
near g c pos a = grind (arith, close_alone, inside)

-- of two liberties one is not l
pub returns-then-count-gt-IN_ATARI-clause-over : goal.returns-then-count-gt-IN_ATARI-clause-over
returns-then-count-gt-IN_ATARI-clause-over g c = λ pos a e enemy.
    let found = rw c.cell.ensures.stays.moves at (c.some_liberties-found.ensures.over pos a) in
    let many = found.more (omega arith) in
    let x = other_of_two pos.size (after pos c.args.board.now.moves).cells c.args.q c.args.l (omega (arith, many)) in
    record { point = x.0; liberty = x.1; other = x.2 }

-- where there are two liberties, the stone and its string were looked at
pub returns-then-count-gt-IN_ATARI-clause-near : goal.returns-then-count-gt-IN_ATARI-clause-near
returns-then-count-gt-IN_ATARI-clause-near g c =
    near g (goal.at.returns-then-count-gt-IN_ATARI-clause-near g c).After-some_liberties-found

-- what is said of the point that is there
when_some : {P : ℕ → Type 0} (o : Option ℕ) → IfSome o P → is_some o ≡ true → (p : ℕ) × P p
when_some None h e = cc
when_some (Some p) h e = (p, h)

-- the liberty that was found is another one of the string of q
pub returns-clause-over : goal.returns-clause-over
returns-clause-over g c = λ pos a e _.
    let cells = (after pos c.args.board.now.moves).cells in
    let some = rw c.cell.ensures.stays.moves at (c.some_liberties-found.ensures.over pos a) in
    let found = when_some c.first_other.result c.first_other.ensures.some (sym c.is_some.ensures ∙ e) in
    let its = has_liberty pos.size cells c.args.q found.0 c.some_liberties-found.result (some.all (omega arith)) in
    record {
      point = found.0;
      liberty = IsLiberty-from_test pos.size cells c.args.q found.0 (sym its ∙ found.1.2);
      other = found.1.3;
    }

-- what is said where no point is there
when_none : {P : Type 0} (o : Option ℕ) → IfNone o P → is_some o ≡ false → P
when_none None h e = h
when_none (Some p) h e = absurd (let w = e in cc)

-- where no other liberty was found, the enemy's string has none
pub returns-clause-dies : goal.returns-clause-dies
returns-clause-dies g c = λ pos a e lives.
    let d = (goal.at.returns-clause-dies g c).After-some_liberties-found in
    let cells = (after pos c.args.board.now.moves).cells in
    let some = rw c.cell.ensures.stays.moves at (c.some_liberties-found.ensures.over pos a) in
    let other = lives (enemy g d pos a) in
    let x = other.point in
    let none = when_none c.first_other.result c.first_other.ensures.none (sym c.is_some.ensures ∙ e) in
    let its = has_liberty pos.size cells c.args.q x c.some_liberties-found.result (some.all (omega arith)) in
    other.other (none x (omega arith)
    (its ∙ is_liberty-from_fact pos.size cells c.args.q x (inside g d pos a) other.liberty))

-- where it has one liberty at most, the stone and its string were looked at
pub returns-clause-near : goal.returns-clause-near
returns-clause-near g c = near g (goal.at.returns-clause-near g c).After-some_liberties-found

-- or its point alone
pub returns-then-ne-clause-near : goal.returns-then-ne-clause-near
returns-then-ne-clause-near g c = grind (arith, on_agreed, close_alone)
