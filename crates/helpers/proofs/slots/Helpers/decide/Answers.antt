-- The place that was found is that of the helper that the name means, and the object there answered.
use Rattle.std.proofs.Common.{sym, ap, ◌∙◌}
use Rattle.helpers.specs.HelperStates.{slot_says, slot_asked}
use Rattle.helpers.proofs.Places.{named-at, named-none, changed-at, changed-none}
use Rattle.helpers.proofs.slots.Helpers.decide.Goals as goal

-- the helper that the name means answers
pub returns-in-Some-clause-answer : goal.returns-in-Some-clause-answer
returns-in-Some-clause-answer g c =
    c.decide.ensures.answer
    ∙ ap (λ s. slot_says s c.args.pos.now c.args.at c.args.friend)
    (sym (named-at _ c.args.name.now c.args.self.now.slots.items c.in-Some.place c.index_mut.result.now
    (sym c.place.ensures.first ∙ c.in-Some.is) c.index_mut.ensures.value))

-- if no helper has the name the answer is no
pub returns-in-None-clause-answer : goal.returns-in-None-clause-answer
returns-in-None-clause-answer g c =
    sym (ap (λ s. slot_says s c.args.pos.now c.args.at c.args.friend)
    (named-none _ c.args.name.now c.args.self.now.slots.items (sym c.place.ensures.first ∙ c.in-None.is)))

-- the helper that the name means was asked, and no other
pub returns-in-Some-clause-after : goal.returns-in-Some-clause-after
returns-in-Some-clause-after g c =
    changed-at _ c.args.name.now c.args.self.now.slots.items slot_asked c.in-Some.place c.index_mut.result.now
    c.decide.new.self (sym c.place.ensures.first ∙ c.in-Some.is) c.index_mut.ensures.value c.decide.ensures.after

-- if no helper has the name none was asked
pub returns-in-None-clause-after : goal.returns-in-None-clause-after
returns-in-None-clause-after g c =
    changed-none _ c.args.name.now c.args.self.now.slots.items slot_asked (sym c.place.ensures.first ∙ c.in-None.is)
