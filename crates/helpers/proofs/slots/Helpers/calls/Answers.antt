-- The place that was found is that of the helper that the name means.
use Rattle.std.proofs.Common.{sym, ap, ◌∙◌, Some, option_map}
use Rattle.helpers.proofs.Places.{named-at, named-none}
use Rattle.helpers.proofs.slots.Helpers.calls.Goals as goal

-- if no helper has the name there is no count
pub returns-in_err-place : goal.returns-in_err-place
returns-in_err-place g c =
    c.from_residual.ensures
    ∙ sym (ap (option_map (λ s. s.helper.calls))
    (named-none _ c.args.name.now c.args.self.now.slots.items (sym c.place.ensures.first ∙ c.in_err-place.was)))

-- the count is that of the helper that the name means
pub returns : goal.returns
returns g c =
    ap Some c.calls.ensures
    ∙ sym (ap (option_map (λ s. s.helper.calls))
    (named-at _ c.args.name.now c.args.self.now.slots.items c.in_ok-place.place c.index.result.now
    (sym c.place.ensures.first ∙ c.in_ok-place.was) c.index.ensures))
