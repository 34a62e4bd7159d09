use Rattle.std.proofs.Common.{◌≡◌, false, eqb, ap, sym, refl, ◌∙◌, arith}
use Rattle.std.proofs.Math.ListN.{set}
use Rattle.std.proofs.lemmas.Bool.{both_ways, eq-eqb, eqb-true}
use Rattle.go_rules.specs.declared.Cell.TheVariants.{Empty}
use Rattle.go_rules.specs.Strings.{cell_at, is_stone, liberties}
use Rattle.go_rules.specs.Neighbourhood.{neighbourhood_of}
use Rattle.go_rules.specs.Position.{BoardState, IsPosition, stone_of, board_of}
use Rattle.go_rules.specs.Play.{taken_at}
use Rattle.go_rules.proofs.Results.{free_occupied}
use Rattle.go_rules.proofs.Cells.{stone_test}
use Rattle.go_rules.proofs.Plays.{stone_is}
use Rattle.go_base.specs.Views.{anywhere, alone}
use Rattle.go_base.proofs.PlayLooks.{Leaves, twice_self, twice_taken, twice_own}
use Rattle.go_base.proofs.PlayResults.{PlaysOn, plays_taken, plays_suicide, plays_done}
use Rattle.go_base.proofs.BoardsBefore.{after_here, takers_live, plays_back, suicide_back}
use Rattle.go_base.proofs.capture.play_on.Given.{Over}
use Rattle.go_base.proofs.capture.play_on.Goals as goal
use Rattle.go_base.proofs.capture.play_on.Goals.{After-is_suicide}

-- on a stone only its point was looked at
pub returns-then-ne-clause-asks : goal.returns-then-ne-clause-asks
returns-then-ne-clause-asks g c = g.met.V.View.asks_within _ _ _ _ c.at.ensures.looks.asked (λ q h. refl)

-- a play on a stone is refused as occupied
pub returns-then-ne-clause-over : goal.returns-then-ne-clause-over
returns-then-ne-clause-over g c = grind (arith, free_occupied, stone_test)

-- a point lies in its own second neighbourhood
pub returns-then-ne-clause-near : goal.returns-then-ne-clause-near
returns-then-ne-clause-near g c =
    λ pos a. g.met.V.View.asks_within _ _ _ _ c.at.ensures.looks.asked
    (λ r h. twice_self (g.V.View.rows c.args.board.now) (g.V.View.cells c.args.board.now pos) c.args.p r c.requires h)

-- what was taken is on the board
pub put_all-requires : goal.put_all-requires
put_all-requires g c = grind arith

-- until the stone's string was judged, only looks and writes happened
asked : (g : Over) (c : After-is_suicide g) → g.V.View.asks c.args.board.now c.is_suicide.new.board anywhere
asked g c =
    let look = g.met.V.View.asks_within _ _ _ _ c.at.ensures.looks.asked (λ q h. refl) in
    let put = g.met.V.View.asks_within _ _ _ _ c.put.ensures.asks (λ q h. refl) in
    let removed = g.met.V.View.asks_within _ _ _ _ c.put_all.ensures.asks (λ q h. refl) in
    g.met.V.View.asks_more _ _ _ _ look (g.met.V.View.asks_more _ _ _ _ put
    (g.met.V.View.asks_more _ _ _ _ c.captured-taken.ensures.looks.asked
    (g.met.V.View.asks_more _ _ _ _ removed c.is_suicide.ensures.looks.asked)))

-- putting the stone and taking it back again asks for nothing
pub returns-then-is_suicide-clause-asks : goal.returns-then-is_suicide-clause-asks
returns-then-is_suicide-clause-asks g c =
    g.met.V.View.asks_more _ _ _ _ (asked g (goal.at.returns-then-is_suicide-clause-asks g c).After-is_suicide)
    (g.met.V.View.asks_within _ _ _ _ c.put-then-is_suicide.ensures.asks (λ q h. refl))

-- the ban is found by looks alone
pub returns-clause-asks : goal.returns-clause-asks
returns-clause-asks g c =
    g.met.V.View.asks_more _ _ _ _ (asked g (goal.at.returns-clause-asks g c).After-is_suicide)
    c.ban_of-ban.ensures.looks.asked

-- the board kept its size until then
rows_are : (g : Over) (c : After-is_suicide g) → g.V.View.rows c.put_all.new.board ≡ g.V.View.rows c.args.board.now
rows_are g c = grind arith

module _ (g : Over) (c : After-is_suicide g) (pos : BoardState) (a : g.V.View.agrees c.is_suicide.new.board pos) where
  -- a position that agrees after the test for suicide agreed before it
  at_removed : g.V.View.agrees c.put_all.new.board pos
  at_removed = g.met.V.View.asks_agrees _ _ _ c.is_suicide.ensures.looks.asked pos a

  -- and before the captured stones were taken off
  at_captured : g.V.View.agrees c.captured-taken.new.board pos
  at_captured = g.met.V.View.asks_agrees _ _ _ c.put_all.ensures.asks pos at_removed

  -- a position that agrees after the test for suicide agreed before the captured stones were looked for
  at_put : g.V.View.agrees c.put.new.self pos
  at_put = g.met.V.View.asks_agrees _ _ _ c.captured-taken.ensures.looks.asked pos at_captured

  -- a position that agrees after the test for suicide agreed before the stone was put
  at_look : g.V.View.agrees c.at.new.self pos
  at_look = g.met.V.View.asks_agrees _ _ _ c.put.ensures.asks pos at_put

  -- the board with the stone put has the rows that it had before the play
  rows_put : g.V.View.rows c.put.new.self ≡ g.V.View.rows c.args.board.now
  rows_put = g.met.V.View.asks_rows _ _ _ c.put.ensures.asks ∙ g.met.V.View.asks_rows _ _ _ c.at.ensures.looks.asked

  -- the point of the play was empty
  was_empty : is_stone (cell_at (g.V.View.cells c.args.board.now pos) c.args.p) ≡ false
  was_empty = sym (c.ne.ensures ∙ stone_test c.at.result ∙ ap is_stone (c.at.ensures.over pos at_look)) ∙ c.if-ne.false

  -- the cells with the stone put are those before, but for the stone at the point of the play
  put_is : g.V.View.cells c.put.new.self pos ≡ set (g.V.View.cells c.args.board.now pos) c.args.p (stone_of c.args.c)
  put_is = grind (arith, at_put)

  -- how the board changed
  leaves : Leaves (g.V.View.rows c.args.board.now) (g.V.View.cells c.args.board.now pos)
      (g.V.View.cells c.put.new.self pos) (g.V.View.cells c.put_all.new.board pos) c.args.c c.args.p
      c.captured-taken.result
  leaves = record {
    whole = g.met.V.View.whole _ pos (g.met.V.View.asks_agrees _ _ _ c.at.ensures.looks.asked pos at_look);
    on_board = c.requires;
    is_empty = was_empty;
    put_is = put_is;
    after_is = rw (
      g.met.V.View.asks_rows _ _ _ c.captured-taken.ensures.looks.asked ∙ rows_put,
      c.captured-taken.ensures.looks.same pos,
    ) at (c.put_all.ensures.over pos at_removed);
  }

  -- what the play did on a position
  plays : IsPosition (board_of (g.V.View.rows c.args.board.now) (g.V.View.cells c.args.board.now pos))
      → PlaysOn (g.V.View.rows c.args.board.now) (g.V.View.cells c.args.board.now pos)
      (g.V.View.cells c.put.new.self pos) (g.V.View.cells c.put_all.new.board pos) c.args.c c.args.p
      c.captured-taken.result
  plays good = record {
    good = good;
    on_board = c.requires;
    is_empty = was_empty;
    put_is = put_is;
    taken_is = rw rows_put at (c.captured-taken.ensures.over pos at_captured);
    after_is = leaves.after_is;
  }

  -- whether the stone's string has no liberty
  suicide_is : IsPosition (board_of (g.V.View.rows c.args.board.now) (g.V.View.cells c.args.board.now pos))
      → c.is_suicide.result ≡ eqb (liberties (g.V.View.rows c.args.board.now)
      (g.V.View.cells c.put_all.new.board pos) c.args.p) 0
  suicide_is good = grind (arith, rows_are, after_here, plays, stone_is, takers_live)

  -- where it was looked until then
  near_play : g.V.View.asks c.args.board.now c.is_suicide.new.board
      (neighbourhood_of (g.V.View.rows c.args.board.now) (g.V.View.cells c.args.board.now pos)
      (neighbourhood_of (g.V.View.rows c.args.board.now) (g.V.View.cells c.args.board.now pos) (alone c.args.p)))
  near_play =
      g.met.V.View.asks_more _ _ _ _ (g.met.V.View.asks_within _ _ _ _ c.at.ensures.looks.asked
      (λ r h. twice_self (g.V.View.rows c.args.board.now)
      (g.V.View.cells c.args.board.now pos) c.args.p r c.requires h))
      (g.met.V.View.asks_more _ _ _ _ (g.met.V.View.asks_within _ _ _ _ c.put.ensures.asks
      (λ r h. absurd (both_ways false refl h)))
      (g.met.V.View.asks_more _ _ _ _ (g.met.V.View.asks_within _ _ _ _
      (rw rows_put at (c.captured-taken.ensures.near pos at_captured)) (λ r h. twice_taken leaves r h))
      (g.met.V.View.asks_more _ _ _ _ (g.met.V.View.asks_within _ _ _ _ c.put_all.ensures.asks
      (λ r h. absurd (both_ways false refl h)))
      (g.met.V.View.asks_within _ _ _ _ (rw (rows_are g c) at (c.is_suicide.ensures.near pos a))
      (λ r h. twice_own leaves r h)))))

-- the stone's string has no liberty
pub returns-then-is_suicide-clause-over : goal.returns-then-is_suicide-clause-over
returns-then-is_suicide-clause-over g c = λ pos a1 good.
    let at = (goal.at.returns-then-is_suicide-clause-over g c).After-is_suicide in
    let a = g.met.V.View.asks_agrees _ _ _ c.put-then-is_suicide.ensures.asks pos a1 in
    plays_suicide (plays g at pos a good) (eqb-true _ _ (sym (suicide_is g at pos a good) ∙ c.if-is_suicide.true))

-- and was removed again
pub returns-then-is_suicide-clause-undone : goal.returns-then-is_suicide-clause-undone
returns-then-is_suicide-clause-undone g c = λ pos a1 good.
    let at = (goal.at.returns-then-is_suicide-clause-undone g c).After-is_suicide in
    let a = g.met.V.View.asks_agrees _ _ _ c.put-then-is_suicide.ensures.asks pos a1 in
    c.put-then-is_suicide.ensures.over pos a1 ∙ ap (λ t. set t c.args.p Empty) (c.is_suicide.ensures.looks.same pos)
    ∙ suicide_back (plays g at pos a good) (eqb-true _ _ (sym (suicide_is g at pos a good) ∙ c.if-is_suicide.true))

-- a suicide is seen within the second neighbourhood of its point
pub returns-then-is_suicide-clause-near : goal.returns-then-is_suicide-clause-near
returns-then-is_suicide-clause-near g c = λ pos a1.
    let at = (goal.at.returns-then-is_suicide-clause-near g c).After-is_suicide in
    let a = g.met.V.View.asks_agrees _ _ _ c.put-then-is_suicide.ensures.asks pos a1 in
    g.met.V.View.asks_more _ _ _ _ (near_play g at pos a)
    (g.met.V.View.asks_within _ _ _ _ c.put-then-is_suicide.ensures.asks (λ r h. absurd (both_ways false refl h)))

-- the play is done, and the ban told
pub returns-clause-over : goal.returns-clause-over
returns-clause-over g c = λ pos a1 good.
    let at = (goal.at.returns-clause-over g c).After-is_suicide in
    let a = g.met.V.View.asks_agrees _ _ _ c.ban_of-ban.ensures.looks.asked pos a1 in
    let rows = g.met.V.View.asks_rows _ _ _ c.is_suicide.ensures.looks.asked ∙ rows_are g at in
    let told = suicide_is g at pos a good in
    rw (c.ban_of-ban.ensures.looks.same pos ∙ c.is_suicide.ensures.looks.same pos)
    (plays_done (plays g at pos a good) c.ban_of-ban.result
    (λ z. both_ways _ (sym told ∙ c.if-is_suicide.false) (eq-eqb _ _ z))
    (rw (rows, c.is_suicide.ensures.looks.same pos) at (c.ban_of-ban.ensures.over pos a1)))

-- what was taken is what the rules take if the stone was put
pub returns-clause-taken : goal.returns-clause-taken
returns-clause-taken g c = λ pos a1 good.
    let at = (goal.at.returns-clause-taken g c).After-is_suicide in
    let a = g.met.V.View.asks_agrees _ _ _ c.ban_of-ban.ensures.looks.asked pos a1 in
    plays_taken (plays g at pos a good)
    ∙ ap (λ t. taken_at (g.V.View.rows c.args.board.now) t c.args.c) (put_is g at pos a)

-- what was taken tells the board before the play
pub returns-clause-undone : goal.returns-clause-undone
returns-clause-undone g c = grind (arith, plays_back, plays g)

-- a play is made within the second neighbourhood of its point
pub returns-clause-near : goal.returns-clause-near
returns-clause-near g c = grind (arith, rows_are g, near_play g, twice_own, leaves g)
