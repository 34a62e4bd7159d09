use Rattle.std.proofs.Common.{◌≡◌, ◌*◌, ◌<◌, ◌||◌, ◌&&◌, false, ap, sym, subst, refl, inl, inr, ◌∙◌, arith}
use Rattle.std.specs.FinSet as set
use Rattle.std.specs.Cmp.{nat_cmp_total}
use Rattle.std.proofs.lemmas.Bool.{cases_Bool, not-false, not-true, or_cases, or_left, or_right, and_from}
use Rattle.go_rules.specs.Strings.{cell_at, is_stone, same_cell}
use Rattle.go_rules.specs.Neighbourhood.{neighbourhood_of}
use Rattle.go_rules.specs.Position.{BoardState, other, stone_of}
use Rattle.go_rules.proofs.Cells.{cells_same, eq_is_same_cell}
use Rattle.go_rules.proofs.Paths.{same_cell-from}
use Rattle.go_rules.proofs.Plays.{stone_is}
use Rattle.go_base.specs.Views.{Looks, anywhere, alone}
use Rattle.go_base.proofs.Takes.{union_there, is_taken_from, not_taken_from, no_enemy_taken}
use Rattle.go_base.proofs.LookSequences.{Looks-more, Looks-within}
use Rattle.go_base.proofs.capture.take.Given.{Over}
use Rattle.go_base.proofs.capture.take.Goals as goal
use Rattle.go_base.proofs.capture.take.Goals.{After-string_without_liberty}

-- what is among the taken ones came with its string
pub returns-then-has-clause-over : goal.returns-then-has-clause-over
returns-then-has-clause-over g c = grind (arith, cases_Bool, union_there)

-- what is no enemy is not taken
pub returns-then-ne-clause-over : goal.returns-then-ne-clause-over
returns-then-ne-clause-over g c = grind (arith, eq_is_same_cell, not-true, no_enemy_taken)

-- an enemy stands there
enemy_is : (g : Over) (c : After-string_without_liberty g) → c.ne.result ≡ false → (pos : BoardState)
    → g.V.View.agrees c.string_without_liberty.new.board pos
    → cell_at (g.V.View.cells c.args.board.now pos) c.args.q ≡ stone_of (other c.args.c)
enemy_is g c enemy pos a = grind (arith, not-false, cells_same)

-- only the string and its neighbours were looked at
near_is : (g : Over) (c : After-string_without_liberty g) → c.ne.result ≡ false → (pos : BoardState)
    → g.V.View.agrees c.string_without_liberty.new.board pos
    → g.V.View.asks c.args.board.now c.string_without_liberty.new.board
    (λ r. alone c.args.q r || (same_cell (cell_at (g.V.View.cells c.args.board.now pos) c.args.q)
    (stone_of (other c.args.c)) && neighbourhood_of (g.V.View.rows c.args.board.now)
    (g.V.View.cells c.args.board.now pos) (alone c.args.q) r))
near_is g c enemy pos a =
    let foe = same_cell-from _ _ (enemy_is g c enemy pos a) in
    let close = rw (
      g.met.V.View.asks_rows _ _ _ c.at.ensures.looks.asked,
      c.at.ensures.looks.same pos,
    ) at (c.string_without_liberty.ensures.near pos a) in
    g.met.V.View.asks_more _ _ _ _ (g.met.V.View.asks_within _ _ _ _ c.at.ensures.looks.asked (λ r h. or_left _ _ h))
    (g.met.V.View.asks_within _ _ _ _ close (λ r h. or_right _ _ (and_from _ _ foe h)))

-- the enemy's point and its string were looked at, and nothing was written
looks_are : (g : Over) (c : After-string_without_liberty g)
    → Looks g.V.View.cells g.V.View.asks c.args.board.now c.string_without_liberty.new.board anywhere
looks_are g c = Looks-more g.met.V.View.asks_more
    (Looks-within g.met.V.View.asks_within c.at.ensures.looks (λ q h. refl)) c.string_without_liberty.ensures.looks

-- a string without liberties came
pub returns-in-Some-clause-looks : goal.returns-in-Some-clause-looks
returns-in-Some-clause-looks g c = looks_are g (goal.at.returns-in-Some-clause-looks g c).After-string_without_liberty

-- its stones join those that are taken
pub returns-in-Some-clause-over : goal.returns-in-Some-clause-over
returns-in-Some-clause-over g c = λ pos a whole.
    let told = rw (
      g.met.V.View.asks_rows _ _ _ c.at.ensures.looks.asked,
      c.at.ensures.looks.same pos,
    ) at (c.string_without_liberty.ensures.over pos a) in
    let enemy = enemy_is g (goal.at.returns-in-Some-clause-over g c).After-string_without_liberty c.if-ne.false pos a in
    let taken = is_taken_from (g.V.View.rows c.args.board.now)
    (g.V.View.cells c.args.board.now pos) c.args.c c.args.q c.in-Some.stones enemy
    (sym c.in-Some.is ∙ told (ap is_stone enemy ∙ stone_is (other c.args.c))) in
    rw taken.0 (c.join.ensures ∙ ap (set.union c.args.taken.now) taken.1)

-- the points that are taken lie on the board
pub returns-in-Some-clause-on_board : goal.returns-in-Some-clause-on_board
returns-in-Some-clause-on_board g c = λ r h.
    elim (or_cases _ _ (sym (ap (λ t. set.contains t r) c.join.ensures
    ∙ set.contains-union nat_cmp_total c.args.taken.now c.in-Some.stones r) ∙ h)) [
      | inl before ↦ inl before
      | inr now ↦ inr (subst (λ n. r < n * n) (g.met.V.View.asks_rows _ _ _ c.at.ensures.looks.asked)
          (c.in-Some.ensures.on_board r now))
    ]

-- only an enemy's string and its neighbours were looked at
pub returns-in-Some-clause-near : goal.returns-in-Some-clause-near
returns-in-Some-clause-near g c = grind (arith, near_is)

-- a string with a liberty stays
pub returns-in_default-clause-looks : goal.returns-in_default-clause-looks
returns-in_default-clause-looks g c = grind (arith, looks_are)

-- a string with a liberty is not taken
pub returns-in_default-clause-over : goal.returns-in_default-clause-over
returns-in_default-clause-over g c = grind (arith, enemy_is, not_taken_from, stone_is)

-- only an enemy's string and its neighbours were looked at
pub returns-in_default-clause-near : goal.returns-in_default-clause-near
returns-in_default-clause-near g c = grind (arith, near_is)
