-- Machines that are the same but for how often their helpers were asked.
use Rattle.std.specs.Prelude.{◌≡◌, List, map}
use Rattle.helpers.specs.HelperStates.{SlotState}
use Rattle.machine_rules.specs.Machine.{Machine}

-- the slot of a helper, with its count of calls set to 0
abbrev pub without_its_calls : SlotState → SlotState
without_its_calls s = record s { helper = record s.helper { calls = 0 } }

-- the slots of helpers with their counts of calls set to 0; number, order, names, meanings and which are on stay
abbrev pub without_calls : List SlotState → List SlotState
without_calls slots = map without_its_calls slots

-- a machine with the counts of calls of its helpers set to 0
abbrev pub quiet : Machine → Machine
quiet machine = record machine { helpers = without_calls machine.helpers }

-- two machines are the same but for the calls of their helpers
abbrev pub AreSameButCalls : Machine → Machine → Type 0
AreSameButCalls old new = quiet new ≡ quiet old
