-- The bytes of a session's reply, and whether it ends the session.
use Rattle.std.specs.Prelude.{ℕ, Bool, false, List, [], ◌∷◌}
use Rattle.gtp_cmd.specs.Replies.{refusal_text}
use Rattle.gtp_cmd.specs.declared.refusals.RefuseText.TheVariants.{OutOfMemory}
use Rattle.session_core.specs.declared.reply.Reply.{Reply}
use Rattle.session_core.specs.declared.reply.Reply.TheVariants as reply

-- the bytes of a reply on the output
abbrev pub reply_bytes : Reply → List ℕ
reply_bytes reply.Nothing = []
reply_bytes (reply.Short text quit) = text
reply_bytes (reply.Text bytes) = bytes
reply_bytes (reply.NoMemory id) = refusal_text id OutOfMemory

-- whether the reply ends the session
abbrev pub reply_ends : Reply → Bool
reply_ends reply.Nothing = false
reply_ends (reply.Short text quit) = quit
reply_ends (reply.Text bytes) = false
reply_ends (reply.NoMemory id) = false

-- 1 for a reply with bytes, 0 for a reply without any
abbrev pub reply_count : List ℕ → ℕ
reply_count [] = 0
reply_count (b ∷ bs) = 1
