-- The numbers of a reply: the status of each fault, and the number of a move.
use Rattle.std.specs.Prelude.{ℕ, ◌==◌, Bool, Option, Some, None, Result, Ok, Err, if◌then◌else◌}
use Rattle.go_rules.specs.Position.{BoardState}
use Rattle.go_rules.specs.declared.Illegal.TheVariants.{Occupied, Ko, Suicide}
use Rattle.read_rules.specs.declared.question.Spot.{Spot}
use Rattle.read_rules.specs.declared.question.Spot.TheVariants.{At, Pass}
use Rattle.read_rules.specs.declared.question.Answer.{Answer}
use Rattle.connect_rules.specs.declared.question.Linkage.{Linkage}
use Rattle.board_bytes.specs.declared.board.BoardBytes.{BoardBytes}
use Rattle.board_bytes.specs.declared.board.BoardFault.TheVariants.{Size, Cell, NoLiberty, Ban}
use Rattle.board_bytes.specs.Bytes.{bytes_of}
use Rattle.board_doors.specs.declared.fault.DoorFault.{DoorFault}
use Rattle.board_doors.specs.declared.fault.DoorFault.TheVariants.{Board, OffBoard, NoStone, Depths, TwoColours, Colour}
use Rattle.board_doors.specs.declared.fault.DoorFault.TheVariants.{Kind, Code, Illegal, ShortBuffer, TooLong}
use Rattle.board_doors.specs.declared.replies.AnswerReply.{AnswerReply}
use Rattle.board_doors.specs.declared.replies.NumberReply.{NumberReply}
use Rattle.board_doors.specs.declared.replies.PlayReply.{PlayReply}
use Rattle.board_doors.specs.Doors.{pass_number}

-- the number of a fault
abbrev pub status_of : DoorFault → ℕ
status_of (Board Size) = 1
status_of (Board Cell) = 2
status_of (Board NoLiberty) = 3
status_of (Board Ban) = 4
status_of OffBoard = 5
status_of NoStone = 6
status_of Depths = 7
status_of TwoColours = 8
status_of Colour = 9
status_of Kind = 10
status_of Code = 11
status_of (Illegal Occupied) = 12
status_of (Illegal Ko) = 13
status_of (Illegal Suicide) = 14
status_of ShortBuffer = 15
status_of TooLong = 16

-- the fault with this number
abbrev pub fault_named : ℕ → Option DoorFault
fault_named n =
    if n == 1 then Some (Board Size)
    else if n == 2 then Some (Board Cell)
    else if n == 3 then Some (Board NoLiberty)
    else if n == 4 then Some (Board Ban)
    else if n == 5 then Some OffBoard
    else if n == 6 then Some NoStone
    else if n == 7 then Some Depths
    else if n == 8 then Some TwoColours
    else if n == 9 then Some Colour
    else if n == 10 then Some Kind
    else if n == 11 then Some Code
    else if n == 12 then Some (Illegal Occupied)
    else if n == 13 then Some (Illegal Ko)
    else if n == 14 then Some (Illegal Suicide)
    else if n == 15 then Some ShortBuffer
    else if n == 16 then Some TooLong
    else None

-- the number that says that there is no move
abbrev pub no_move : ℕ
no_move = 65534

-- the number of a move: the number of its point, of the pass, or of no move
abbrev pub spot_number : Option Spot → ℕ
spot_number None = no_move
spot_number (Some (At p)) = p
spot_number (Some Pass) = pass_number

-- 1 for yes, 0 for no
abbrev pub truth_number : Bool → ℕ
truth_number told = if told then 1 else 0

-- the reply to a reading
abbrev pub answer_reply : Result Answer DoorFault → AnswerReply
answer_reply (Ok answer) = record { status = 0; code = answer.code; at = spot_number answer.at }
answer_reply (Err fault) = record { status = status_of fault; code = 0; at = no_move }

-- the reply to a connection
abbrev pub linkage_reply : Result Linkage DoorFault → AnswerReply
linkage_reply (Ok linkage) = record { status = 0; code = truth_number linkage.yes; at = spot_number linkage.at }
linkage_reply (Err fault) = record { status = status_of fault; code = 0; at = no_move }

-- a reply that is a number
abbrev pub number_reply : Result ℕ DoorFault → NumberReply
number_reply (Ok number) = record { status = 0; number = number }
number_reply (Err fault) = record { status = status_of fault; number = 0 }

-- a reply that is yes or no
abbrev pub truth_reply : Result Bool DoorFault → NumberReply
truth_reply (Ok told) = record { status = 0; number = truth_number told }
truth_reply (Err fault) = record { status = status_of fault; number = 0 }

-- the reply to a play: the bytes of the position after it, or with a fault the board that came in
abbrev pub play_reply : BoardBytes → Result BoardState DoorFault → PlayReply
play_reply board (Ok pos) = record { status = 0; board = bytes_of pos }
play_reply board (Err fault) = record { status = status_of fault; board = board }
