-- What the commands do that name one helper.
use Rattle.std.specs.Prelude.{ℕ, List, [], Option, Some, None, is_some, if◌then◌else◌, decimal}
use Rattle.helpers.specs.HelperStates.{SlotState, named, after_off, after_remove, calls_of}
use Rattle.gtp_cmd.specs.declared.refusals.RefuseText.TheVariants.{NoSuchHelper}
use Rattle.machine_rules.specs.Machine.{Machine}
use Rattle.machine_rules.specs.Effects.{Effect, refused, succeeded, growing}

-- the machine with these helpers
abbrev pub with_helpers : Machine → List SlotState → Machine
with_helpers machine helpers = record machine { helpers = helpers }

-- the effect, if some helper has the name, else a refusal; both in a growing reply
abbrev pub of_helper : Machine → List ℕ → Effect → Effect
of_helper old name effect = growing old (if is_some (named name old.helpers) then effect else refused old NoSuchHelper)

-- the first helper with the name is switched off
abbrev pub switched_off : Machine → List ℕ → Effect
switched_off old name = of_helper old name (succeeded [] (with_helpers old (after_off name old.helpers)))

-- the first helper with the name is taken out and dropped
abbrev pub dropped : Machine → List ℕ → Effect
dropped old name = of_helper old name (succeeded [] (with_helpers old (after_remove name old.helpers)))

-- a count in decimal; empty if there is none
abbrev pub count_text : Option ℕ → List ℕ
count_text None = []
count_text (Some n) = decimal n

-- the reply says how often the first helper with the name was asked
abbrev pub calls_told : Machine → List ℕ → Effect
calls_told old name = of_helper old name (succeeded (count_text (calls_of name old.helpers)) old)
