-- How an answer of the code fits the effect of a command.
use Rattle.std.specs.Prelude.{◌≡◌, ◌⊎◌, ℕ, true, false, List, [], None, Some}
use Rattle.gtp_cmd.specs.declared.refusals.RefuseText.TheVariants.{OutOfMemory}
use Rattle.sure_lines.specs.Effects.{Effect, IsExcused}
use Rattle.sure_lines.specs.declared.answer.Answer.{Answer}
use Rattle.sure_lines.specs.declared.answer.Answer.TheVariants as answer
use Rattle.sure_lines.specs.Machine.{Machine}

-- the command succeeds with this result, the session goes on, and the machine is new after it
pub record Succeeds (effect : Effect) (result : List ℕ) (new : Machine) : Type 0 where
  pub allowed : effect.refusal ≡ None
  pub told : effect.result ≡ result
  pub next : new ≡ effect.next
  pub goes_on : effect.ends ≡ false

-- the answer is that of the effect, and the machine is new after it; or it is an excuse that may take the place of that
-- answer, and the machine is the old one. A result that took memory must allow the excuse OutOfMemory, since there may
-- be no memory for its reply
abbrev pub IsAnswer : Effect → Answer → Machine → Machine → Type 0
IsAnswer effect (answer.Brief result) old new = Succeeds effect result new
IsAnswer effect (answer.Grown result) old new =
    Succeeds effect result new × IsExcused effect.excuses OutOfMemory × (new ≡ old)
IsAnswer effect answer.NoMemory old new = IsExcused effect.excuses OutOfMemory × (new ≡ old)
IsAnswer effect (answer.Refused text) old new =
    ((effect.refusal ≡ Some text) × (new ≡ effect.next) × (effect.ends ≡ false))
    ⊎ (IsExcused effect.excuses text × (new ≡ old))
IsAnswer effect answer.Ended old new =
    (effect.refusal ≡ None) × (effect.result ≡ []) × (new ≡ effect.next) × (effect.ends ≡ true)
