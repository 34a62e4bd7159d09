-- What a session keeps with its helpers, and how it answers lines.
use Rattle.std.specs.Prelude.{ℕ, List}
use Rattle.helpers.specs.HelperStates.{HelperState}
use Rattle.helpers.specs.Slots.{states_of}
use Rattle.machine_rules.specs.Machine.{Machine}
use Rattle.machine_rules.specs.Files.{Contents}
use Rattle.machine_rules.specs.Step.{step}
use Rattle.session_core.specs.EngineView.{machine_with}
use Rattle.session_core.specs.Kept.{Kept}
use Rattle.session_core.specs.LineAnswers.{LineStep}
use Rattle.session_core.specs.MatcherView.{matcher_of}
use Rattle.session_core.specs.declared.session.Session.{Session}

-- all that a line may change: the engine and the helpers of the session, and the missed names
abbrev pub kept_of : {V : Type 0} {F : V → Type 0} → ((i : V) × F i → HelperState) → Session V F → List (List ℕ) → Kept
kept_of state session missed =
    record { engine = session.engine; helpers = states_of state session.helpers; missed = missed }

-- the machine of a session
abbrev pub machine_now : {V : Type 0} {F : V → Type 0} → ((i : V) × F i → HelperState) → Session V F → Machine
machine_now state session = machine_with (states_of state session.helpers) session.engine

-- the step by which a session answers a line if files have these contents
abbrev pub step_of : {V : Type 0} {F : V → Type 0} → Session V F → Contents → LineStep
step_of session contents = step (matcher_of session.matcher) contents
