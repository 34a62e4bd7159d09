-- Each case of the bytes.
use Rattle.std.proofs.Common.{sym, ap, ◌∙◌, arith}
use Rattle.board_bytes.specs.Bytes.{with_stones}
use Rattle.board_bytes.proofs.Boards.{is_read, refuses_size, refuses_cell, by_stones_read}
use Rattle.board_bytes.proofs.read.position_of.Goals as goal

-- no board has the size
pub returns-in_default : goal.returns-in_default
returns-in_default c = refuses_size c.args.board.now c.new.result c.new.ensures.valid c.in_default.is

-- the byte of a point names nothing
pub returns-then-not-are_cell_bytes : goal.returns-then-not-are_cell_bytes
returns-then-not-are_cell_bytes c = grind (arith, refuses_cell, is_read)

-- a string has no liberty
pub returns-in_default-stones_of : goal.returns-in_default-stones_of
returns-in_default-stones_of c =
    ap (with_stones c.args.board.now) (sym c.in_default-stones_of.is)
    ∙ by_stones_read c.args.board.now c.in-Some.size _ c.are_cell_bytes.result c.stones_of.result
    (is_read c.args.board.now c.new.result c.in-Some.size c.from.result c.points.result c.new.ensures.valid
    c.new.ensures.value c.in-Some.is c.from.ensures c.points.ensures.value)
    c.are_cell_bytes.ensures c.if-not-are_cell_bytes.false c.stones_of.ensures

-- the ban decides
pub returns : goal.returns
returns c =
    rw (c.ok_or.ensures.value, c.with_ban.ensures)
    (ap (with_stones c.args.board.now) (sym c.in-Some-stones_of.is)
    ∙ by_stones_read c.args.board.now c.in-Some.size _ c.are_cell_bytes.result c.stones_of.result
    (is_read c.args.board.now c.new.result c.in-Some.size c.from.result c.points.result c.new.ensures.valid
    c.new.ensures.value c.in-Some.is c.from.ensures c.points.ensures.value)
    c.are_cell_bytes.ensures c.if-not-are_cell_bytes.false c.stones_of.ensures)
