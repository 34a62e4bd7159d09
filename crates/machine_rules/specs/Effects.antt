-- What a command does and prints, and the reply that this becomes with the id of its line.
use Rattle.std.specs.Prelude.{◌≡◌, ◌⊎◌, ℕ, Bool, true, false, List, [], ◌∷◌, map, Option, None, Some}
use Rattle.gtp_rules.specs.Steps.{Fallback, Step}
use Rattle.gtp_cmd.specs.Replies.{success_text, refusal_text}
use Rattle.gtp_cmd.specs.declared.refusals.RefuseText.{RefuseText}
use Rattle.gtp_cmd.specs.declared.refusals.RefuseText.TheVariants.{OutOfMemory}
use Rattle.machine_rules.specs.Machine.{Machine}

-- a refusal that may stand in place of a reply, and the machine after it
pub record Excuse : Type 0 where
  pub refusal : RefuseText
  pub next : Machine

-- what a command does and what it prints
pub record Effect : Type 0 where
  -- why the command is refused; none if it succeeds
  pub refusal : Option RefuseText
  -- the result of a success
  pub result : List ℕ
  -- what may stand in place of the reply
  pub excuses : List Excuse
  -- the machine after the command
  pub next : Machine
  -- the command ends the session
  pub ends : Bool

-- the command is refused, and the machine stays
abbrev pub refused : Machine → RefuseText → Effect
refused old text = record { refusal = Some text; result = []; excuses = []; next = old; ends = false }

-- the command succeeds with this result, and `next` is the machine after it
abbrev pub succeeded : List ℕ → Machine → Effect
succeeded result next = record { refusal = None; result = result; excuses = []; next = next; ends = false }

-- the command succeeds and ends the session, and the machine stays
abbrev pub ended : Machine → Effect
ended old = record { refusal = None; result = []; excuses = []; next = old; ends = true }

-- the excuse that memory ran out; `next` is the machine after it
abbrev pub out_of_memory : Machine → Excuse
out_of_memory next = record { refusal = OutOfMemory; next = next }

-- the reply is a growing one: if there is no memory for it, the line counts as not sent
abbrev pub growing : Machine → Effect → Effect
growing old effect = record effect { excuses = out_of_memory old ∷ effect.excuses }

-- the command succeeds with this result in a growing reply, and `next` is the machine after it
abbrev pub grown : Machine → List ℕ → Machine → Effect
grown old result next = growing old (succeeded result next)

-- the text of a reply with an id: the text of the refusal if there is one, else the text of the result
abbrev pub reply_text : Option ℕ → Option RefuseText → List ℕ → List ℕ
reply_text id None result = success_text id result
reply_text id (Some refusal) result = refusal_text id refusal

-- an excuse as a fallback: its refusal with the id, and the machine after it
abbrev pub fallback : Option ℕ → Excuse → Fallback Machine
fallback id excuse = record { reply = refusal_text id excuse.refusal; next = excuse.next }

-- the reply to a command with this effect, and the machine after it
abbrev pub replied : Option ℕ → Effect → Step Machine
replied id effect = record {
  reply = reply_text id effect.refusal effect.result;
  fallbacks = map (fallback id) effect.excuses;
  next = effect.next;
  ends = effect.ends;
}

-- one of these excuses has this refusal, and `new` is the machine after it
abbrev pub IsExcused : List Excuse → RefuseText → Machine → Type 0
IsExcused [] refusal new = ⊥
IsExcused (excuse ∷ excuses) refusal new = ((refusal ≡ excuse.refusal) × (new ≡ excuse.next))
    ⊎ IsExcused excuses refusal new
