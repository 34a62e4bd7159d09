-- The first of the points that succeeds is the first of all.
use Rattle.std.proofs.Common.{◌∙◌, arith, sym}
use Rattle.std.specs.FinSet as set
use Rattle.read_rules.proofs.WinLemmas.{none_up_to}
use Rattle.sure_rules.proofs.SureLemmas.{tried_on}
use Rattle.read_zones.proofs.AnswerLemmas.{first_found, none_found}
use Rattle.read_zones.proofs.answers.first_of.Goals as goal

-- no point was tried yet
pub plays-init : goal.plays-init
plays-init c = λ q below. absurd (omega (arith, below))

-- the next point is on the board
pub succeeds-requires : goal.succeeds-requires
succeeds-requires c = grind (arith, tried_on)

-- it does not succeed, and none before it did
pub plays-preserved : goal.plays-preserved
plays-preserved c = grind (arith, none_up_to)

-- it is the first that succeeds
pub returns-then-succeeds-clause-first : goal.returns-then-succeeds-clause-first
returns-then-succeeds-clause-first c =
    let found = c.in-Some.ensures.some in
    first_found c.args.plies c.args.node c.args.position.now (set.contains c.args.points.now) c.requires.others
    c.plays.from c.in-Some.p c.plays.invariant found.3 (c.requires.tried c.in-Some.p found.2)
    (sym c.if-succeeds.true ∙ c.succeeds.ensures)

-- and it is on the board
pub returns-then-succeeds-clause-on_board : goal.returns-then-succeeds-clause-on_board
returns-then-succeeds-clause-on_board c = grind (arith, tried_on)

-- none succeeds
pub returns-clause-first : goal.returns-clause-first
returns-clause-first c =
    none_found c.args.plies c.args.node c.args.position.now (set.contains c.args.points.now) c.requires.others
    c.plays.from c.plays.invariant c.in_default.ensures.none
