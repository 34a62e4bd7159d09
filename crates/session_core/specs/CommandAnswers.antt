-- How a session's answer to a command follows from what the command does.
use Rattle.std.specs.Prelude.{◌≡◌, ◌⊎◌, ℕ, true, false, List, [], ◌∷◌, Option, None, Some}
use Rattle.gtp_cmd.specs.declared.commands.Command.{Command}
use Rattle.gtp_cmd.specs.declared.refusals.RefuseText.TheVariants.{OutOfMemory, CannotLoadFile}
use Rattle.machine_rules.specs.Files.{Contents}
use Rattle.machine_rules.specs.Loads.{Load, load_of, IsFileOf}
use Rattle.machine_rules.specs.Machine.{Machine}
use Rattle.machine_rules.specs.Matcher.{Matcher}
use Rattle.machine_rules.specs.Step.{effect_of}
use Rattle.machine_rules.specs.Effects.{Effect, IsExcused}
use Rattle.session_core.specs.declared.answer.Answer.{Answer}
use Rattle.session_core.specs.declared.answer.Answer.TheVariants as answer

-- the command succeeds with this result, the session goes on, and `new` is the machine after the command
pub record Succeeds (effect : Effect) (result : List ℕ) (new : Machine) : Type 0 where
  pub allowed : effect.refusal ≡ None
  pub told : effect.result ≡ result
  pub next : new ≡ effect.next
  pub goes_on : effect.ends ≡ false

-- The answer is what the command prints, and `new` is the machine after it; or the answer is an excuse that may stand
-- in its place. A grown result needs that excuse too, since there may be no memory for its reply.
abbrev pub IsAnswer : Effect → Answer → Machine → Type 0
IsAnswer effect (answer.Brief result) new = Succeeds effect result new
IsAnswer effect (answer.Grown result) new = Succeeds effect result new × IsExcused effect.excuses OutOfMemory new
IsAnswer effect answer.NoMemory new = IsExcused effect.excuses OutOfMemory new
IsAnswer effect (answer.Refused text) new =
    ((effect.refusal ≡ Some text) × (new ≡ effect.next) × (effect.ends ≡ false)) ⊎ IsExcused effect.excuses text new
IsAnswer effect answer.Ended new =
    (effect.refusal ≡ None) × (effect.result ≡ []) × (new ≡ effect.next) × (effect.ends ≡ true)

-- the load of a file of this name
abbrev pub named : List ℕ → Option Load
named name = Some (record { id = None; name = name })

-- the names that a load with this answer missed
abbrev pub missed_as : Option Load → Answer → List (List ℕ)
missed_as (Some load) (answer.Refused CannotLoadFile) = load.name ∷ []
missed_as _ _ = []

-- a command that may load a file was done: the answer is what it prints, on a text that is the contents of that file
abbrev pub IsDone : Contents → Matcher → Machine → List ℕ → Command → Answer → Machine → Type 0
IsDone contents matcher old line command answer new =
    (file : List ℕ) × IsFileOf contents (load_of line None command) file
    × IsAnswer (effect_of matcher old (record { line = line; file = file }) command) answer new
