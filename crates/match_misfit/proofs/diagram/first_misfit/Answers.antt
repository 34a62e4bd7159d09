use Rattle.std.proofs.Common.{sym}
use Rattle.match_misfit.proofs.RowCells.{nothing_told, something_told}
use Rattle.match_misfit.proofs.diagram.first_misfit.Goals as goal

-- all cells fit
pub returns-in_err-i-clause-none : goal.returns-in_err-i-clause-none
returns-in_err-i-clause-none c =
    nothing_told c.args.p.now c.args.position.now c.args.friend c.args.t c.args.at c.from_residual.result
    c.from_residual.ensures (sym c.in_err-i.ensures.first)

-- one cell does not
pub returns-clause-none : goal.returns-clause-none
returns-clause-none c =
    something_told c.args.p.now c.args.position.now c.args.friend c.args.t c.args.at _ c.told_of.result
    (sym c.in_ok-i.ensures.first)
