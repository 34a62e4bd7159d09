use Rattle.std.proofs.Common.{◌≡◌, drop}
use Rattle.std.specs.List.{filter_map}
use Rattle.move_choice.specs.Worth.{worth_said}
use Rattle.move_choice.proofs.worth.worth_of.Given as goal

-- no item so far says a number
abbrev pub invariant-loop-item : goal.invariant-loop-item
invariant-loop-item l =
    filter_map worth_said (drop l.item-index l.pattern.items) ≡ filter_map worth_said l.pattern.items
