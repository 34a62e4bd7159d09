use Rattle.std.proofs.Common.{arith}
use Rattle.trial_board.proofs.BoundaryLemmas.{AddsLeast-some, AddsLeast-none, KnowsLeast-join}
use Rattle.go_base.proofs.LookSequences.{Looks-none}
use Rattle.trial_board.proofs.boundary.add_least.Goals as goal

-- a string that was seen is known
pub returns-then-has-clause-looks : goal.returns-then-has-clause-looks
returns-then-has-clause-looks g c = Looks-none g.met.V.View.asks_none _ _

-- it looked at nothing
pub returns-then-has-clause-near : goal.returns-then-has-clause-near
returns-then-has-clause-near g c = λ pos a. g.met.V.View.asks_none _ _

-- its least point came with it
pub returns-then-has-clause-adds : goal.returns-then-has-clause-adds
returns-then-has-clause-adds g c = grind arith

-- the least point of a string that was not seen comes
pub returns-in-Some-clause-adds : goal.returns-in-Some-clause-adds
returns-in-Some-clause-adds g c = λ pos a knows.
    let first = c.in-Some.ensures.some in
    AddsLeast-some (g.V.View.rows c.args.board.now)
    (g.V.View.cells c.args.board.now pos) c.args.q c.in-Some.r c.flood-found.result.stones c.args.least.now
    c.add.new.self
    c.requires.on_board (c.flood-found.ensures.stones pos a) first.2 (λ k l. first.3 k (omega arith) l) c.add.ensures

-- the least points of the strings seen are known with it
pub returns-in-Some-clause-knows : goal.returns-in-Some-clause-knows
returns-in-Some-clause-knows g c = λ pos a knows.
    let first = c.in-Some.ensures.some in
    let s = g.V.View.rows c.args.board.now in
    let cells = g.V.View.cells c.args.board.now pos in
    let string = c.flood-found.ensures.stones pos a in
    KnowsLeast-join s cells c.args.q c.args.seen.now _ c.flood-found.result.stones c.args.least.now _ c.requires.on_board
    string c.join.ensures knows
    (AddsLeast-some s cells c.args.q c.in-Some.r c.flood-found.result.stones c.args.least.now c.add.new.self
    c.requires.on_board string first.2 (λ k l. first.3 k (omega arith) l) c.add.ensures)

-- an empty string has no least point
pub returns-in_default-clause-adds : goal.returns-in_default-clause-adds
returns-in_default-clause-adds g c = λ pos a knows.
    AddsLeast-none (g.V.View.rows c.args.board.now)
    (g.V.View.cells c.args.board.now pos) c.args.q c.flood-found.result.stones c.args.least.now c.requires.on_board
    (c.flood-found.ensures.stones pos a) c.in_default.ensures.none

-- the least points of the strings seen are known without it
pub returns-in_default-clause-knows : goal.returns-in_default-clause-knows
returns-in_default-clause-knows g c = λ pos a knows.
    let s = g.V.View.rows c.args.board.now in
    let cells = g.V.View.cells c.args.board.now pos in
    let string = c.flood-found.ensures.stones pos a in
    KnowsLeast-join s cells c.args.q c.args.seen.now _ c.flood-found.result.stones c.args.least.now c.args.least.now
    c.requires.on_board string c.join.ensures knows
    (AddsLeast-none s cells c.args.q c.flood-found.result.stones c.args.least.now c.requires.on_board string
    c.in_default.ensures.none)
