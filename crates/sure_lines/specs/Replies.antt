-- What a reply writes to the output.
use Rattle.std.specs.Prelude.{ℕ, Bool, false, List, [], if◌then◌else◌, codes}
use Rattle.gtp_cmd.specs.Replies.{refusal_text}
use Rattle.gtp_cmd.specs.declared.refusals.RefuseText.TheVariants.{OutOfMemory}
use Rattle.sure_lines.specs.declared.reply.Reply.{Reply}
use Rattle.sure_lines.specs.declared.reply.Reply.TheVariants as reply

-- the bytes that a reply writes to the output
abbrev pub reply_bytes : Reply → List ℕ
reply_bytes reply.Nothing = []
reply_bytes (reply.Short text quit) = text
reply_bytes (reply.Text bytes) = bytes
reply_bytes (reply.NoMemory id) = refusal_text id OutOfMemory

-- the reply ends the session
abbrev pub reply_ends : Reply → Bool
reply_ends reply.Nothing = false
reply_ends (reply.Short text quit) = quit
reply_ends (reply.Text bytes) = false
reply_ends (reply.NoMemory id) = false

-- the word `true` or `false`
abbrev pub word_of : Bool → List ℕ
word_of known = if known then codes "true" else codes "false"
