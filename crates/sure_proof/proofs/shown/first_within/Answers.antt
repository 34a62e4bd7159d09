-- The first point of both sets, and if there is none the first of the one.
use Rattle.std.proofs.Common.{◌∙◌, ap, sym, refl, Some, None}
use Rattle.sure_proof.specs.Rests.{first_of}
use Rattle.sure_proof.proofs.RestLemmas.{first_is, first_none, first_found, within_by}
use Rattle.sure_proof.proofs.shown.first_within.Goals as goal

-- one is in both
pub returns-in-Some-clause-value : goal.returns-in-Some-clause-value
returns-in-Some-clause-value c =
    let points = c.args.points.now in
    let found = c.in-Some.ensures.some in
    sym (within_by c.args.zone.now points (Some c.in-Some.p) (first_of points)
    (ap first_of (sym c.intersection.ensures)
    ∙ first_is c.intersection.result c.in-Some.p found.1 found.2 found.3) refl)

-- none is
pub returns-in-None-clause-value : goal.returns-in-None-clause-value
returns-in-None-clause-value c =
    let points = c.args.points.now in
    let last = c.first_from-in-None.ensures in
    sym (within_by c.args.zone.now points None c.first_from-in-None.result
    (ap first_of (sym c.intersection.ensures) ∙ first_none c.intersection.result c.in-None.ensures.none)
    (first_found points c.first_from-in-None.result last.some last.none))
