use Rattle.std.proofs.Common.{◌≡◌, ◌&&◌, eqb, arith}
use Rattle.std.proofs.lemmas.Bool.{eq-eqb, ne_eqb}
use Rattle.std.specs.FinSet as set
use Rattle.go_rules.specs.Strings.{string_at, liberties}
use Rattle.go_rules.specs.Position.{BoardState}
use Rattle.go_rules.proofs.Bans.{ban_none, ban_some, ban_empty}
use Rattle.go_base.proofs.BoundedSearches.{one_of_each}
use Rattle.go_base.proofs.capture.ban_of.Given.{Over}
use Rattle.go_base.proofs.capture.ban_of.Goals as goal
use Rattle.go_base.proofs.capture.ban_of.Goals.{After-are_one}

-- more than one stone was taken, or none
pub returns-then-count-ne1-clause-over : goal.returns-then-count-ne1-clause-over
returns-then-count-ne1-clause-over g c = grind (arith, ne_eqb, ban_none)

-- where one stone was taken, the test by the other counts is the test of the rules
test_is : (g : Over) (c : After-are_one g) → c.count.result ≡ 1 → (pos : BoardState)
    → g.V.View.agrees c.search-own.new.board pos
    → c.are_one.result ≡ (eqb (set.len c.args.taken.now) 1
    && eqb (set.len (string_at (g.V.View.rows c.args.board.now) (g.V.View.cells c.args.board.now pos) c.args.p)) 1
    && eqb (liberties (g.V.View.rows c.args.board.now) (g.V.View.cells c.args.board.now pos) c.args.p) 1)
test_is g c one pos a = grind (arith, one_of_each, eq-eqb)

-- no ko
pub returns-then-not-are_one-clause-over : goal.returns-then-not-are_one-clause-over
returns-then-not-are_one-clause-over g c = grind (arith, test_is, ban_none)

-- the one stone that was taken
pub returns-in-Some-clause-over : goal.returns-in-Some-clause-over
returns-in-Some-clause-over g c = grind (arith, test_is, ban_some)

-- one stone was taken, so this does not come
pub returns-in-None-clause-over : goal.returns-in-None-clause-over
returns-in-None-clause-over g c = grind (arith, test_is, ban_empty)
