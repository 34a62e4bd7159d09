-- All that a line may change.
use Rattle.std.specs.Prelude.{ℕ, List}
use Rattle.helpers.specs.HelperStates.{SlotState}
use Rattle.machine_rules.specs.Machine.{Machine}
use Rattle.session_core.specs.EngineView.{EngineView, machine_with}

-- what a session keeps, its helpers, and the names of the files that could not be loaded
pub record Kept : Type 0 where
  pub engine : EngineView
  pub helpers : List SlotState
  pub missed : List (List ℕ)

-- the machine of what is kept
abbrev pub machine_of : Kept → Machine
machine_of kept = machine_with kept.helpers kept.engine

-- an engine with these helpers and these missed names
abbrev pub kept_with : List SlotState → List (List ℕ) → EngineView → Kept
kept_with helpers missed engine = record { engine = engine; helpers = helpers; missed = missed }
