use Rattle.std.proofs.Common.{arith}
use Rattle.go_base.proofs.LastLiberties.{AddsLast-one, AddsLast-none, KnowsLast-join}
use Rattle.go_base.specs.Bits.{marked}
use Rattle.go_base.proofs.Marks.{contains-small}
use Rattle.go_base.proofs.LookSequences.{Looks-none}
use Rattle.go_base.proofs.surroundings.add_last_liberty.Goals as goal

-- a string that was seen is known
pub returns-then-has-clause-looks : goal.returns-then-has-clause-looks
returns-then-has-clause-looks g c = Looks-none g.met.V.View.asks_none _ _

-- nothing was looked at
pub returns-then-has-clause-near : goal.returns-then-has-clause-near
returns-then-has-clause-near g c = λ pos a. g.met.V.View.asks_none _ _

-- its last liberty, if it has one, came with it
pub returns-then-has-clause-adds : goal.returns-then-has-clause-adds
returns-then-has-clause-adds g c = grind (arith, contains-small)

-- the one liberty of a string that was not seen comes
pub returns-then-count-eq-IN_ATARI-clause-adds : goal.returns-then-count-eq-IN_ATARI-clause-adds
returns-then-count-eq-IN_ATARI-clause-adds g c = λ pos a knows.
    AddsLast-one (g.V.View.rows c.args.board.now)
    (g.V.View.cells c.args.board.now pos) c.args.q c.count.result c.search_into.new.found c.args.last.now
    (c.search_into.ensures.over pos a) c.count.ensures.value c.join.new.self
    c.if-count-eq-IN_ATARI.true c.join.ensures

-- the last liberties of the strings seen are known with it
pub returns-then-count-eq-IN_ATARI-clause-knows : goal.returns-then-count-eq-IN_ATARI-clause-knows
returns-then-count-eq-IN_ATARI-clause-knows g c = λ pos a knows.
    let s = g.V.View.rows c.args.board.now in
    let cells = g.V.View.cells c.args.board.now pos in
    KnowsLast-join s cells c.args.q (marked c.args.seen.now)
    (marked c.mark_in.new.bits) c.search_into.new.found.stones c.args.last.now
    c.join.new.self c.requires.on_board
    (c.search_into.ensures.over pos a).part c.mark_in.ensures knows
    (AddsLast-one s cells c.args.q c.count.result c.search_into.new.found c.args.last.now
    (c.search_into.ensures.over pos a) c.count.ensures.value c.join.new.self
    c.if-count-eq-IN_ATARI.true c.join.ensures)

-- a string with more liberties adds none
pub returns-else-count-eq-IN_ATARI-clause-adds : goal.returns-else-count-eq-IN_ATARI-clause-adds
returns-else-count-eq-IN_ATARI-clause-adds g c = λ pos a knows.
    AddsLast-none (g.V.View.rows c.args.board.now)
    (g.V.View.cells c.args.board.now pos) c.args.q c.count.result c.search_into.new.found c.args.last.now
    (c.search_into.ensures.over pos a) c.count.ensures.value c.if-count-eq-IN_ATARI.false

-- the last liberties of the strings seen are known without it
pub returns-else-count-eq-IN_ATARI-clause-knows : goal.returns-else-count-eq-IN_ATARI-clause-knows
returns-else-count-eq-IN_ATARI-clause-knows g c = λ pos a knows.
    let s = g.V.View.rows c.args.board.now in
    let cells = g.V.View.cells c.args.board.now pos in
    KnowsLast-join s cells c.args.q (marked c.args.seen.now)
    (marked c.mark_in.new.bits) c.search_into.new.found.stones c.args.last.now
    c.args.last.now c.requires.on_board (c.search_into.ensures.over pos a).part c.mark_in.ensures knows
    (AddsLast-none s cells c.args.q c.count.result c.search_into.new.found c.args.last.now
    (c.search_into.ensures.over pos a) c.count.ensures.value c.if-count-eq-IN_ATARI.false)
