-- What a handle that held a session has answered.
use Rattle.std.proofs.Common.{◌≡◌, ◌∙◌, ℕ, false, List, length, Option, Some, IfSome, ap, sym, subst}
use Rattle.session_core.specs.Replies.{reply_bytes}
use Rattle.board_doors.specs.Printed.{printed_over}
use Rattle.session_doors.specs.declared.held.HeldSession.{HeldSession}
use Rattle.session_doors.specs.declared.lines.Unanswered.{Unanswered}
use Rattle.session_doors.specs.declared.replies.LineReply.{LineReply}
use Rattle.session_doors.specs.Answered.{AnswersText, has_feed, LeavesUnanswered}
use Rattle.session_doors.specs.Replies.{line_reply, fault_reply}
use Rattle.gopat_session_c.specs.Held.{HasAnswered, answered, unanswered}

module _ (was : Option HeldSession) (held : HeldSession) (text : List ℕ) (now : Option HeldSession)
    (before after : List ℕ) (reply : LineReply) (is : was ≡ Some held) where
  -- what the session that was held has answered
  by-held : HasAnswered held text now before after reply
      → IfSome was (λ old. HasAnswered old text now before after reply)
  by-held answers =
      subst (λ (o : Option HeldSession). IfSome o (λ old. HasAnswered old text now before after reply)) (sym is) answers

  -- a line
  pub told-answered : (new : HeldSession) → now ≡ Some new → AnswersText held text new → has_feed text ≡ false
      → reply ≡ line_reply new.reply (length before) → after ≡ printed_over (reply_bytes new.reply) before
      → IfSome was (λ old. HasAnswered old text now before after reply)
  told-answered new holds answers line told over = by-held (answered new holds answers line told over)

  -- a text that was left
  pub told-unanswered : (left : Unanswered) → now ≡ Some left.session → LeavesUnanswered held text left
      → reply ≡ fault_reply left.fault → after ≡ before
      → IfSome was (λ old. HasAnswered old text now before after reply)
  told-unanswered left holds leaves told over =
      by-held (unanswered left.fault (holds ∙ ap (λ s. Some s) leaves.same) leaves.fault told over)
