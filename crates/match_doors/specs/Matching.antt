-- The matches on a caller's board, and their numbers.
use Rattle.std.specs.Prelude.{◌≡◌, ◌<◌, ◌≤◌, ℕ, List, [], length, nat_lt, slice_index_or, Option, Some, None}
use Rattle.std.specs.Prelude.{Result, Ok, Err, if◌then◌else◌}
use Rattle.go_rules.specs.declared.Colour.{Colour}
use Rattle.go_rules.specs.Position.{BoardState}
use Rattle.helpers.specs.HelperStates.{says_yes}
use Rattle.match_engine.specs.ReadingDepths.{ReadingDepths}
use Rattle.match_engine.specs.Readings.{codes_at}
use Rattle.match_rules.specs.declared.found.Match.{Match}
use Rattle.match_rules.specs.Match.{matches_of}
use Rattle.pat_types.specs.declared.pattern.Pattern.{Pattern}
use Rattle.board_bytes.specs.declared.board.BoardBytes.{BoardBytes}
use Rattle.board_bytes.specs.Bytes.{position_of, colour_named}
use Rattle.board_doors.specs.declared.depths.DepthBytes.{DepthBytes}
use Rattle.board_doors.specs.declared.fault.DoorFault.{DoorFault}
use Rattle.board_doors.specs.declared.fault.DoorFault.TheVariants.{Depths as bad_depths, Colour as bad_colour}
use Rattle.board_doors.specs.declared.fault.DoorFault.TheVariants.{ShortBuffer}
use Rattle.board_doors.specs.Doors.{on_position, are_depths, tree_named}
use Rattle.board_doors.specs.Replies.{status_of}
use Rattle.match_doors.specs.declared.replies.MatchBytes.{MatchBytes}
use Rattle.match_doors.specs.declared.replies.MatchReply.{MatchReply}

-- the depths that these numbers name
abbrev pub depths_named : DepthBytes → ReadingDepths
depths_named depths = record { tree = tree_named depths.tree; plies = depths.plies; wide = depths.wide }

-- the matches of the patterns for a friend, with readings of these depths and without helpers
abbrev pub matches_on : List Pattern → Colour → DepthBytes → BoardState → List Match
matches_on patterns friend depths pos = matches_of (codes_at (depths_named depths)) (says_yes []) patterns pos friend

-- the matches of the patterns for the friend, or the first fault: of the colour if there is none, then of the depths
abbrev pub matching_by : List Pattern → DepthBytes → BoardState → Option Colour → Result (List Match) DoorFault
matching_by patterns depths pos None = Err bad_colour
matching_by patterns depths pos (Some friend) =
    if are_depths depths then Ok (matches_on patterns friend depths pos) else Err bad_depths

-- the matches of the patterns for the colour with this number, or the first fault: of the colour, then of the depths
unfoldable pub matching_on : List Pattern → ℕ → DepthBytes → BoardState → Result (List Match) DoorFault
matching_on patterns colour depths pos = matching_by patterns depths pos (colour_named colour)

-- the matches of the patterns on the position of the bytes, or the first fault
unfoldable pub matching_of : List Pattern → BoardBytes → ℕ → DepthBytes → Result (List Match) DoorFault
matching_of patterns board colour depths = on_position (matching_on patterns colour depths) (position_of board)

-- the numbers of a match: its pattern's place, counted from 0, the point of its move, and its transformation
abbrev pub bytes_of : Match → MatchBytes
bytes_of z = record { pattern = z.pattern; at = z.at; transform = z.transform }

-- the reply to a question with n matches, for a buffer with this much room
abbrev pub found_reply : ℕ → ℕ → MatchReply
found_reply n room =
    if nat_lt room n then record { status = status_of ShortBuffer; number = n } else record { status = 0; number = n }

-- the reply to a question, for a buffer with this much room: of its matches, or of its fault
abbrev pub match_reply : Result (List Match) DoorFault → ℕ → MatchReply
match_reply (Ok zs) room = found_reply (length zs) room
match_reply (Err fault) room = record { status = status_of fault; number = 0 }

-- the numbers of the first n matches stand at the front of the buffer, in their order; the rest of the buffer stays
pub record AreWrittenTo (n : ℕ) (zs : List Match) (old new : List MatchBytes) : Type 0 where
  pub whole : length new ≡ length old
  pub front : (i : ℕ) (z : Match) (none : MatchBytes) → i < n
      → slice_index_or new i none ≡ bytes_of (slice_index_or zs i z)
  pub behind : (i : ℕ) (none : MatchBytes) → n ≤ i → slice_index_or new i none ≡ slice_index_or old i none

-- the numbers of the matches stand at the front of the buffer, in their order; the rest of the buffer stays
abbrev pub AreWritten : List Match → List MatchBytes → List MatchBytes → Type 0
AreWritten zs old new = AreWrittenTo (length zs) zs old new

-- the buffer of a question with these matches, if there is room for them; else it is as it was
pub record AreWrittenIf (zs : List Match) (old new : List MatchBytes) : Type 0 where
  pub written : length zs ≤ length old → AreWritten zs old new
  pub same : length old < length zs → new ≡ old

-- the buffer after a question: its matches if there is room for them; else it is as it was
abbrev pub IsBuffer : Result (List Match) DoorFault → List MatchBytes → List MatchBytes → Type 0
IsBuffer (Ok zs) old new = AreWrittenIf zs old new
IsBuffer (Err fault) old new = new ≡ old

-- the status of an empty handle
abbrev pub closed : ℕ
closed = 17

-- the status of a call for which there was no memory
abbrev pub no_memory : ℕ
no_memory = 18

-- the reply to a question for which there was no memory
abbrev pub unanswered : MatchReply
unanswered = record { status = no_memory; number = 0 }

-- the reply to a question to an empty handle
abbrev pub closed_reply : MatchReply
closed_reply = record { status = closed; number = 0 }

-- the reply and the buffer answer the question; or there was no memory, and the buffer is as it was
pub data AnswersWithMatches (found : Result (List Match) DoorFault) (old new : List MatchBytes) (reply : MatchReply) :
    Type 0 where
  answered : reply ≡ match_reply found (length old) → IsBuffer found old new → AnswersWithMatches found old new reply
  without_memory : reply ≡ unanswered → new ≡ old → AnswersWithMatches found old new reply
