-- A stone that is not noted to be alive has its string searched, and nothing is written.
use Rattle.std.proofs.Common.{◌≡◌, ◌*◌, ◌≤◌, arith, List, [], length, ap, ◌∙◌, take, get_or-take}
use Rattle.std.specs.FinSet as set
use Rattle.go_rules.specs.Board.{largest_points, largest_size}
use Rattle.go_rules.specs.declared.Cell.{Cell}
use Rattle.go_rules.specs.Position.{board_of}
use Rattle.go_rules.specs.Strings.{liberties}
use Rattle.go_rules.proofs.Cells.{stone_test}
use Rattle.go_base.specs.Bits.{marked}
use Rattle.go_base.proofs.HeldBoards.{whole_after}
use Rattle.go_base.proofs.Liberties.{len-liberty_points}
use Rattle.go_base.proofs.Marks.{contains-small}
use Rattle.go_base.proofs.Setups.{dead_from, alive_seen, AreAlive-more}
use Rattle.go_base.proofs.setup.is_dead_at.Goals as goal
use Rattle.go_base.proofs.setup.is_dead_at.Goals.{After-count}

-- a stone that is noted to be alive is
pub returns-then-has-clause-value : goal.returns-then-has-clause-value
returns-then-has-clause-value c = grind (arith, contains-small)

-- the board is as it was
pub returns-then-count-eq0-clause-same : goal.returns-then-count-eq0-clause-same
returns-then-count-eq0-clause-same c = c.flood-stones.ensures.looks.same (board_of 0 [])

-- the board is as it was
pub returns-clause-same : goal.returns-clause-same
returns-clause-same c = c.flood-stones.ensures.looks.same (board_of 0 [])

-- the cells of the board
abbrev cells_of : After-count → List Cell
cells_of c = take (c.args.board.now.size * c.args.board.now.size) c.args.board.now.cells

-- the board has all its cells after the search
held : (c : After-count) → (length c.flood-stones.new.board.cells ≡ largest_points)
    × (c.flood-stones.new.board.size ≤ largest_size)
held c = whole_after c.args.board.now c.flood-stones.new.board c.flood-stones.ensures.looks.asked c.requires.whole

-- the liberties that were counted are those of the string
counted : (c : After-count) → c.count.result ≡ liberties c.args.board.now.size (cells_of c) c.args.p
counted c =
    c.count.ensures.value ∙ ap set.len (c.flood-stones.ensures.liberties (board_of 0 []) (held c))
    ∙ len-liberty_points c.args.board.now.size (cells_of c) c.args.p

-- a string without a liberty is dead
pub returns-then-count-eq0-clause-value : goal.returns-then-count-eq0-clause-value
returns-then-count-eq0-clause-value c = grind (arith, get_or-take, stone_test, dead_from, counted)

-- one with a liberty is not
pub returns-clause-value : goal.returns-clause-value
returns-clause-value c = grind (arith, alive_seen, counted)

-- and its stones come to those that are alive
pub returns-clause-alive : goal.returns-clause-alive
returns-clause-alive c =
    let d = (goal.at.returns-clause-alive c).After-count in
    AreAlive-more c.args.board.now.size (cells_of d) c.args.p c.count.result (marked c.args.alive.now)
    c.flood-stones.result.stones (marked c.mark_in.new.bits) c.requires.on_board
    (c.flood-stones.ensures.stones (board_of 0 []) (held d)) (counted d) c.if-count-eq0.false c.mark_in.ensures
    c.requires.alive
