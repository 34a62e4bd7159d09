use Rattle.std.proofs.Common.{◌≡◌, take, map}
use Rattle.helpers.specs.Slots.{slot_state}
use Rattle.helpers.proofs.slots.Helpers.names.Given as goal

-- the names so far were copied
abbrev pub invariant-loop-slot : goal.invariant-loop-slot
invariant-loop-slot g l =
    l.names.items
    ≡ map (λ s. (slot_state (λ b. (goal.Helper-dyn g (b.vtable, b.value)).state b.value) s).helper.name)
    (take l.slot-index l.slot-items)
