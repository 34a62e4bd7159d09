-- The place that was found is that of the helper that the name means.
use Rattle.std.proofs.Common.{refl, sym, ap, ◌∙◌, false, is_some}
use Rattle.helpers.proofs.Places.{named-at, named-none, changed-at, changed-none}
use Rattle.helpers.proofs.slots.Helpers.off.Goals as goal

-- there is a helper of the name
pub returns-in-Some-clause-found : goal.returns-in-Some-clause-found
returns-in-Some-clause-found g c =
    sym (ap is_some (named-at _ c.args.name.now c.args.self.now.slots.items c.in-Some.place c.index_mut.result.now
    (sym c.place.ensures.first ∙ c.in-Some.is) c.index_mut.ensures.value))

-- there is no helper of the name
pub returns-in-None-clause-found : goal.returns-in-None-clause-found
returns-in-None-clause-found g c =
    sym (ap is_some (named-none _ c.args.name.now c.args.self.now.slots.items
    (sym c.place.ensures.first ∙ c.in-None.is)))

-- the helper that the name means is off, and the others are as before
pub returns-in-Some-clause-after : goal.returns-in-Some-clause-after
returns-in-Some-clause-after g c =
    changed-at
    _
    c.args.name.now
    c.args.self.now.slots.items
    (λ s. record s { on = false })
    c.in-Some.place
    c.index_mut.result.now
    (record { helper = c.index_mut.result.now.helper; on = false })
    (sym c.place.ensures.first ∙ c.in-Some.is)
    c.index_mut.ensures.value
    refl

-- if no helper has the name the list is as before
pub returns-in-None-clause-after : goal.returns-in-None-clause-after
returns-in-None-clause-after g c =
    changed-none _ c.args.name.now c.args.self.now.slots.items (λ s. record s { on = false })
    (sym c.place.ensures.first ∙ c.in-None.is)
