use Rattle.std.proofs.Common.{◌≡◌, map, drop}
use Rattle.std.specs.List.{position_from}
use Rattle.helpers.specs.HelperStates.{has_name}
use Rattle.helpers.specs.Slots.{slot_state}
use Rattle.helpers.proofs.slots.Helpers.place.Given as goal

-- no helper so far has the name
abbrev pub invariant-loop-i : goal.invariant-loop-i
invariant-loop-i g l =
    let seen = slot_state (λ b. (goal.Helper-dyn g (b.vtable, b.value)).state b.value) in
    position_from (has_name l.name) l.i (map seen (drop l.i l.slot-items))
    ≡ position_from (has_name l.name) 0 (map seen l.slot-items)
