-- The place that was found is that of the helper that the name means.
use Rattle.std.proofs.Common.{sym, ap, ◌∙◌, option_map}
use Rattle.helpers.proofs.Places.{named-at, removed-at, removed-none, taken-none}
use Rattle.helpers.proofs.slots.Helpers.remove.Goals as goal

-- if no helper has the name none is taken out
pub returns-in_err-place-clause-found : goal.returns-in_err-place-clause-found
returns-in_err-place-clause-found g c =
    taken-none _ c.args.name.now c.args.self.now.slots.items _ c.from_residual.result
    (sym c.place.ensures.first ∙ c.in_err-place.was) c.from_residual.ensures

-- if no helper has the name the list is as before
pub returns-in_err-place-clause-after : goal.returns-in_err-place-clause-after
returns-in_err-place-clause-after g c =
    removed-none _ c.args.name.now c.args.self.now.slots.items (sym c.place.ensures.first ∙ c.in_err-place.was)

-- the helper that the name means is taken out
pub returns-clause-found : goal.returns-clause-found
returns-clause-found g c =
    sym
    (ap (option_map (λ s. s.helper))
    (named-at _ c.args.name.now c.args.self.now.slots.items c.in_ok-place.place c.remove-slot.result
    (sym c.place.ensures.first ∙ c.in_ok-place.was) c.remove-slot.ensures.value))

-- the list is that without the helper
pub returns-clause-after : goal.returns-clause-after
returns-clause-after g c =
    removed-at _ c.args.name.now c.args.self.now.slots.items c.in_ok-place.place c.remove-slot.new.self.items
    (sym c.place.ensures.first ∙ c.in_ok-place.was) c.remove-slot.ensures.items
