-- All helpers say yes exactly if no field says no.
use Rattle.helpers.specs.HelperStates.{says_yes}
use Rattle.helpers.specs.Slots.{states_of}
use Rattle.helpers.proofs.Refusals.{all_agree_if_none}
use Rattle.helpers.proofs.agreement.all_agree.Goals as goal

-- all helpers say yes exactly if no field says no
pub returns-clause-answer : goal.returns-clause-answer
returns-clause-answer g c =
    let slots = states_of (λ z. (goal.Helper-dyn g z).state z.1) c.args.helpers.now in
    all_agree_if_none (λ name. says_yes slots name c.args.pos.now c.args.at c.args.friend) c.args.items.now
    c.first_refusal.result c.is_none.result c.first_refusal.ensures.first c.is_none.ensures
