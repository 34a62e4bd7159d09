-- Helpers that a caller hands in.
use Rattle.std.specs.Prelude.{ℕ, true, List, map}
use Rattle.helpers.specs.HelperStates.{HelperState, SlotState}

-- the slots made of the helpers handed in: all are on
abbrev pub handed : {B : Type 0} → (B → HelperState) → List B → List SlotState
handed {B} state boxes = map {A = B} {B = SlotState} (λ b. record { helper = state b; on = true }) boxes

-- the names of helpers, in order
abbrev pub helper_names : List SlotState → List (List ℕ)
helper_names slots = map (λ s. s.helper.name) slots
