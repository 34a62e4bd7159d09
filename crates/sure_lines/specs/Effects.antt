-- The effect of a command, and the reply that has it after the id of the line.
use Rattle.std.specs.Prelude.{◌≡◌, ◌⊎◌, ℕ, Bool, true, false, List, [], ◌∷◌, map, Option, None, Some}
use Rattle.gtp_rules.specs.Steps.{Fallback, Step}
use Rattle.gtp_cmd.specs.Replies.{success_text, refusal_text}
use Rattle.gtp_cmd.specs.declared.refusals.RefuseText.{RefuseText}
use Rattle.gtp_cmd.specs.declared.refusals.RefuseText.TheVariants.{OutOfMemory}
use Rattle.sure_lines.specs.Machine.{Machine}

-- the effect of a command: what it answers, and what it does to the machine
pub record Effect : Type 0 where
  -- why the command is refused; none if it succeeds
  pub refusal : Option RefuseText
  -- the result of a success
  pub result : List ℕ
  -- the refusals that may take the place of the reply; the machine then stays as it was
  pub excuses : List RefuseText
  -- the machine after the command
  pub next : Machine
  -- the command ends the session
  pub ends : Bool

-- the command is refused, and the machine stays as it was
abbrev pub refused : Machine → RefuseText → Effect
refused old text = record { refusal = Some text; result = []; excuses = []; next = old; ends = false }

-- the command succeeds with this result, and the machine is next after it
abbrev pub succeeded : List ℕ → Machine → Effect
succeeded result next = record { refusal = None; result = result; excuses = []; next = next; ends = false }

-- the command succeeds and ends the session, and the machine stays as it was
abbrev pub ended : Machine → Effect
ended old = record { refusal = None; result = []; excuses = []; next = old; ends = true }

-- there may be no memory for the command: then the line counts as not sent
abbrev pub growing : Effect → Effect
growing effect = record effect { excuses = OutOfMemory ∷ effect.excuses }

-- the text of a reply with this id: of the refusal if there is one, else of the result
abbrev pub reply_text : Option ℕ → Option RefuseText → List ℕ → List ℕ
reply_text id None result = success_text id result
reply_text id (Some refusal) result = refusal_text id refusal

-- a refusal with this id, which leaves the machine as it was
abbrev pub fallback : Option ℕ → Machine → RefuseText → Fallback Machine
fallback id old refusal = record { reply = refusal_text id refusal; next = old }

-- the reply to a command with this effect on the old machine, and the machine after the command
abbrev pub replied : Option ℕ → Machine → Effect → Step Machine
replied id old effect = record {
  reply = reply_text id effect.refusal effect.result;
  fallbacks = map (fallback id old) effect.excuses;
  next = effect.next;
  ends = effect.ends;
}

-- the refusal is one of the excuses
abbrev pub IsExcused : List RefuseText → RefuseText → Type 0
IsExcused [] refusal = ⊥
IsExcused (excuse ∷ excuses) refusal = (refusal ≡ excuse) ⊎ IsExcused excuses refusal
