use Rattle.std.proofs.Common.{arith}
use Rattle.dfa_match.proofs.Cursors.{cursor_in_row, cursor_in_next_row}
use Rattle.dfa_match.proofs.cursor.Cursor.next.Goals as goal

-- the next point stands in the same row
pub returns-then-self-side : goal.returns-then-self-side
returns-then-self-side c = grind (arith, cursor_in_row)

-- or the next row begins
pub returns-else-self-side : goal.returns-else-self-side
returns-else-self-side c = λ m is.
    cursor_in_next_row c.args.size m c.args.self is c.requires.column
    (omega (arith, c.if-self-side.false, c.get-side.ensures.value)) _ (omega (arith, c.get-side.ensures.at_most))
