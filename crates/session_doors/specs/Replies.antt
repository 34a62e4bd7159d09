-- The numbers that say how a line was answered, and whether a session was opened.
use Rattle.std.specs.Prelude.{ℕ, Bool, List, length, nat_lt, if◌then◌else◌}
use Rattle.session_core.specs.Replies.{reply_bytes, reply_ends}
use Rattle.session_core.specs.declared.reply.Reply.{Reply}
use Rattle.board_doors.specs.declared.fault.DoorFault.TheVariants.{ShortBuffer, Depths as bad_depths}
use Rattle.board_doors.specs.Replies.{status_of, truth_number}
use Rattle.match_doors.specs.declared.replies.OpenReply.{OpenReply}
use Rattle.match_doors.specs.Matching.{closed, no_memory}
use Rattle.match_doors.specs.Opening as patterns
use Rattle.session_doors.specs.declared.lines.LineFault.{LineFault}
use Rattle.session_doors.specs.declared.lines.LineFault.TheVariants as line
use Rattle.session_doors.specs.declared.opening.OpenFault.{OpenFault}
use Rattle.session_doors.specs.declared.opening.OpenFault.TheVariants.{Depths, Cache, States, Patterns}
use Rattle.session_doors.specs.declared.replies.LineReply.{LineReply}

-- the status of options whose cache is out of its range
abbrev pub bad_cache : ℕ
bad_cache = 21

-- the status of options whose states are out of their range
abbrev pub bad_states : ℕ
bad_states = 22

-- the status of a text that has a line feed
abbrev pub bad_line : ℕ
bad_line = 23

-- the numbers of a text that may end the session, for a buffer with this much room
abbrev pub text_reply : List ℕ → Bool → ℕ → LineReply
text_reply text ends room = record {
  status = if nat_lt room (length text) then status_of ShortBuffer else 0;
  ends = truth_number ends;
  length = length text;
}

-- the numbers of a reply to a line, for a buffer with this much room
abbrev pub line_reply : Reply → ℕ → LineReply
line_reply reply room = text_reply (reply_bytes reply) (reply_ends reply) room

-- the reply with this status and no bytes
abbrev pub without_bytes : ℕ → LineReply
without_bytes status = record { status = status; ends = 0; length = 0 }

-- the reply of an empty handle
abbrev pub closed_reply : LineReply
closed_reply = without_bytes closed

-- the reply to a text that was not answered
abbrev pub fault_reply : LineFault → LineReply
fault_reply line.LineFeed = without_bytes bad_line
fault_reply line.NoMemory = without_bytes no_memory

-- the reply with this status to a text and options that opened no session
abbrev pub unopened : ℕ → OpenReply
unopened status = record { status = status; kind = 0; line = 0; patterns = 0 }

-- the reply to a text and options that opened no session
abbrev pub refused_reply : OpenFault → OpenReply
refused_reply Depths = unopened (status_of bad_depths)
refused_reply Cache = unopened bad_cache
refused_reply States = unopened bad_states
refused_reply (Patterns fault) = patterns.refused_reply fault
