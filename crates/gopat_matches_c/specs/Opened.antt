-- What a handle holds after a text was read into it.
use Rattle.std.specs.Prelude.{◌≡◌, ℕ, List, length, Option, Some, None}
use Rattle.pat_types.specs.declared.pattern.Pattern.{Pattern}
use Rattle.match_doors.specs.declared.patterns.PatternFault.{PatternFault}
use Rattle.match_doors.specs.declared.replies.OpenReply.{OpenReply}
use Rattle.match_doors.specs.Patterns.{AreOpened, IsRefused}
use Rattle.match_doors.specs.Opening.{opened_reply, refused_reply}

-- the most states that the patterns of a text may have
abbrev pub most_states : ℕ
most_states = 100000

-- the handle holds the patterns of the text, and the reply says how many there are; or the handle is empty, and the
-- reply says why
abbrev pub IsOpened : List ℕ → OpenReply → Option (List Pattern) → Type 0
IsOpened text reply (Some patterns) = AreOpened text most_states patterns × (reply ≡ opened_reply (length patterns))
IsOpened text reply None = (fault : PatternFault) × IsRefused text most_states fault × (reply ≡ refused_reply fault)
