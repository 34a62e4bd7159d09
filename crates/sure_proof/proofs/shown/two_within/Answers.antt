-- The first point, and the first of the rest.
use Rattle.std.proofs.Common.{◌∙◌, ap, sym, Some, None}
use Rattle.sure_proof.specs.Rests.{first_within}
use Rattle.sure_proof.proofs.RestLemmas.{two_behind}
use Rattle.sure_proof.proofs.shown.two_within.Goals as goal

-- the rest has none
pub returns-in_err-second-clause-value : goal.returns-in_err-second-clause-value
returns-in_err-second-clause-value c =
    let zone = c.args.zone.now in
    c.from_residual-in_err-second.ensures ∙ sym (two_behind zone c.args.points.now c.in_ok-first.first None
    (sym c.in_ok-first.ensures.value)
    (ap (first_within zone) (sym c.without.ensures) ∙ sym c.in_err-second.ensures.value))

-- so no points are given
pub returns-in_err-second-clause-small : goal.returns-in_err-second-clause-small
returns-in_err-second-clause-small c = rw c.from_residual-in_err-second.ensures tt

-- the rest has one
pub returns-clause-value : goal.returns-clause-value
returns-clause-value c =
    let zone = c.args.zone.now in
    sym (two_behind zone c.args.points.now c.in_ok-first.first (Some c.in_ok-second.second)
    (sym c.in_ok-first.ensures.value)
    (ap (first_within zone) (sym c.without.ensures) ∙ sym c.in_ok-second.ensures.value))
