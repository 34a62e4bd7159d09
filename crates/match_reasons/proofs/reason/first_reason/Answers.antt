use Rattle.std.proofs.Common.{Some}
use Rattle.helpers.specs.HelperStates.{says_yes}
use Rattle.helpers.specs.Slots.{states_of}
use Rattle.match_reasons.proofs.NoReason.{none_if_match, first_before, first_by_helpers}
use Rattle.match_reasons.proofs.reason.first_reason.Goals as goal

-- a part before the helpers fails
pub returns-in-Some-clause-none : goal.returns-in-Some-clause-none
returns-in-Some-clause-none g c =
    let says = says_yes (states_of (λ z. (goal.Helper-dyn g z).state z.1) c.args.helpers.now) in
    none_if_match c.args.depths says c.args.p.now c.args.position.now c.args.friend c.args.t c.args.at
    (Some c.in-Some.reason)
    (first_before c.args.depths says c.args.p.now c.args.position.now c.args.friend c.args.t c.args.at c.in-Some.reason
    c.in-Some.ensures)

-- the helpers decide
pub returns-in-None-clause-none : goal.returns-in-None-clause-none
returns-in-None-clause-none g c =
    let says = says_yes (states_of (λ z. (goal.Helper-dyn g z).state z.1) c.args.helpers.now) in
    none_if_match c.args.depths says c.args.p.now c.args.position.now c.args.friend c.args.t c.args.at
    c.helper_reason.result
    (first_by_helpers c.args.depths says c.args.p.now c.args.position.now c.args.friend c.args.t c.args.at
    c.helper_reason.result c.in-None.ensures c.helper_reason.ensures.reason)
