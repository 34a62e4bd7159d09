use Rattle.std.proofs.Common.{sym, arith}
use Rattle.match_misfit.proofs.RowCells.{first_of_rows, none_of_rows}
use Rattle.match_misfit.proofs.diagram.first_cell.Goals as goal

-- the rows before it fit
pub returns-in-Some-clause-first : goal.returns-in-Some-clause-first
returns-in-Some-clause-first c =
    sym (first_of_rows c.args.p.now c.args.position.now c.args.friend c.args.t c.args.at c.loop-i.i _
    (omega (arith, c.loop-i-test.true)) c.loop-i.invariant (sym c.in-Some.ensures.first))

-- all rows fit
pub returns-clause-first : goal.returns-clause-first
returns-clause-first c =
    sym (none_of_rows c.args.p.now c.args.position.now c.args.friend c.args.t c.args.at
    (λ k low. c.loop-i.invariant k (omega (arith, low, c.loop-i-test.false))))
