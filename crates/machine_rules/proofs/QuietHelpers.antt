-- Helpers keep all but their calls while they are asked.
use Rattle.std.proofs.Common.{◌≡◌, ℕ, zero, suc, Bool, true, false, cond, List, [], ◌∷◌, refl}
use Rattle.std.specs.List.{list_any}
use Rattle.helpers.specs.HelperStates.{HelperState, SlotState, has_name}
use Rattle.helpers.specs.Agreement.{asked_often, slot_asked_often, raised_from, raised}
use Rattle.machine_rules.specs.Calls.{without_its_calls, without_calls}

-- a helper without its calls
abbrev quiet_helper : HelperState → HelperState
quiet_helper h = record h { calls = 0 }

-- however often a helper was asked, it keeps the rest
often-quiet : (n : ℕ) (h : HelperState) → quiet_helper (asked_often n h) ≡ quiet_helper h
often-quiet zero h = refl
often-quiet (suc n) h = often-quiet n h

-- so does the place of one that was asked or was not
place-quiet : (b : Bool) (n : ℕ) (s : SlotState)
    → without_its_calls (cond b s (slot_asked_often n s)) ≡ without_its_calls s
place-quiet true n s = refl
place-quiet false n s = λ i. record { helper = often-quiet n s.helper i; on = s.on }

-- and each place of a list behind some others
from-quiet : (times : List ℕ → ℕ) (before slots : List SlotState)
    → without_calls (raised_from before times slots) ≡ without_calls slots
from-quiet times before [] = refl
from-quiet times before (s ∷ slots) = λ i.
    place-quiet (list_any (has_name s.helper.name) before) (times s.helper.name) s i
    ∷ from-quiet times (s ∷ before) slots i

-- a list of helpers whose calls rose keeps all but its calls
pub raised-quiet : (times : List ℕ → ℕ) (slots : List SlotState)
    → without_calls (raised times slots) ≡ without_calls slots
raised-quiet times slots = from-quiet times [] slots
