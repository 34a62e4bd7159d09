use Rattle.std.proofs.Common.{◌∙◌, sym, arith, below_more}
use Rattle.match_misfit.proofs.RowCells.{first_in_row, none_in_row}
use Rattle.match_misfit.proofs.diagram.misfit_in_row.Goals as goal

-- the cells before it fit
pub returns-then-not-does_fit-clause-first : goal.returns-then-not-does_fit-clause-first
returns-then-not-does_fit-clause-first c =
    sym (first_in_row c.args.p.now c.args.position.now c.args.friend c.args.t c.args.at c.args.i c.loop-j.j
    (omega (arith, c.loop-j-test.true)) c.loop-j.invariant (sym c.does_fit.ensures ∙ c.if-not-does_fit.true))

-- one more cell fits
pub loop-j-preserved : goal.loop-j-preserved
loop-j-preserved c = below_more _ _ c.loop-j.invariant (sym c.does_fit.ensures ∙ c.if-not-does_fit.false)

-- all cells fit
pub returns-clause-first : goal.returns-clause-first
returns-clause-first c =
    sym (none_in_row c.args.p.now c.args.position.now c.args.friend c.args.t c.args.at c.args.i
    (λ k low. c.loop-j.invariant k (omega (arith, low, c.loop-j-test.false))))
