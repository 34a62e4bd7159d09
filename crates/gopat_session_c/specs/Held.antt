-- What a handle holds after a call, and what the call replies and writes.
use Rattle.std.specs.Prelude.{◌≡◌, ℕ, false, List, length, Option, Some, None}
use Rattle.session_core.specs.Replies.{reply_bytes}
use Rattle.board_doors.specs.Printed.{printed_over}
use Rattle.match_doors.specs.declared.replies.OpenReply.{OpenReply}
use Rattle.match_doors.specs.Opening.{opened_reply}
use Rattle.session_doors.specs.declared.held.HeldSession.{HeldSession}
use Rattle.session_doors.specs.declared.lines.LineFault.{LineFault}
use Rattle.session_doors.specs.declared.opening.OpenFault.{OpenFault}
use Rattle.session_doors.specs.declared.options.SessionOptions.{SessionOptions}
use Rattle.session_doors.specs.declared.replies.LineReply.{LineReply}
use Rattle.session_doors.specs.Answered.{AnswersText, has_feed, IsFaultOf}
use Rattle.session_doors.specs.Opened.{IsOpened, Refuses}
use Rattle.session_doors.specs.Replies.{line_reply, fault_reply, refused_reply}

-- the session is that of the text and the options before its first line, and the reply says how many patterns it has
pub record OpensWith (text : List ℕ) (options : SessionOptions) (reply : OpenReply) (held : HeldSession) : Type 0 where
  pub count : ℕ
  pub opened : IsOpened text options (record { session = held; patterns = count })
  pub told : reply ≡ opened_reply count

-- the handle holds the session of the text and the options; or it is empty, and the reply gives their first fault
abbrev pub Opens : List ℕ → SessionOptions → OpenReply → Option HeldSession → Type 0
Opens text options reply (Some held) = OpensWith text options reply held
Opens text options reply None = (fault : OpenFault) × Refuses text options fault × (reply ≡ refused_reply fault)

-- The handle that held `old` answered the line of a text, and the bytes of the reply stand in the buffer if there is
-- room for them; or the text is not one line, or memory ran out, and nothing changed.
pub data HasAnswered (old : HeldSession) (text : List ℕ) (held : Option HeldSession) (before after : List ℕ)
    (reply : LineReply) : Type 0 where
  answered : (new : HeldSession) → held ≡ Some new → AnswersText old text new → has_feed text ≡ false
      → reply ≡ line_reply new.reply (length before) → after ≡ printed_over (reply_bytes new.reply) before
      → HasAnswered old text held before after reply
  unanswered : (fault : LineFault) → held ≡ Some old → IsFaultOf text fault → reply ≡ fault_reply fault
      → after ≡ before → HasAnswered old text held before after reply
