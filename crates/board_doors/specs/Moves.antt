-- All moves that attain the code of a caller's question, and their numbers in a reply.
use Rattle.std.specs.Prelude.{◌≡◌, ℕ, ◌<◌, ◌&&◌, Bool, Result, Ok, Err, replicate, slice_index_or}
use Rattle.std.specs.FinSet as set
use Rattle.go_rules.specs.Board.{largest_points}
use Rattle.go_rules.specs.Position.{BoardState}
use Rattle.read_rules.specs.declared.question.ReadingQuestion.{ReadingQuestion}
use Rattle.read_rules.specs.Answer.{answer_of}
use Rattle.read_all.specs.declared.moves.Among.TheVariants.{Candidates}
use Rattle.read_all.specs.AllMoves.{AreAllMoves, is_among, attains_at, attains_by_pass}
use Rattle.board_doors.specs.declared.fault.DoorFault.{DoorFault}
use Rattle.board_doors.specs.declared.moves.MoveSet.{MoveSet}
use Rattle.board_doors.specs.declared.replies.MovesReply.{MovesReply}
use Rattle.board_doors.specs.Doors.{Asked}
use Rattle.board_doors.specs.Replies.{status_of, truth_number}

-- the result is all moves that attain the code of the question, or its fault
abbrev pub TellsMoves : Result Asked DoorFault → Result MoveSet DoorFault → Type 0
TellsMoves (Ok asked) (Ok moves) = AreAllMoves asked.question asked.position moves.code moves.pass moves.points
TellsMoves (Ok asked) (Err told) = ⊥
TellsMoves (Err fault) (Ok moves) = ⊥
TellsMoves (Err fault) (Err told) = told ≡ fault

-- the reply to a question with a fault: the status of the fault, and 0 in all other fields
abbrev pub no_moves : DoorFault → MovesReply
no_moves fault = record { status = status_of fault; code = 0; pass = 0; points = replicate largest_points 0 }

-- the numbers of the reply are those of the moves: status 0, the code, 1 if the pass is one of the moves and else 0,
-- and for each point 1 if a play there is one of them and else 0
pub record AreNumbersOf (moves : MoveSet) (reply : MovesReply) : Type 0 where
  pub status : reply.status ≡ 0
  pub code : reply.code ≡ moves.code
  pub pass : reply.pass ≡ truth_number moves.pass
  pub points : (p : ℕ) → p < largest_points → slice_index_or reply.points p 0
      ≡ truth_number (set.contains moves.points p)

-- the reply has the numbers of the moves, or it is the reply to the fault
abbrev pub RepliesMoves : Result MoveSet DoorFault → MovesReply → Type 0
RepliesMoves (Ok moves) reply = AreNumbersOf moves reply
RepliesMoves (Err fault) reply = reply ≡ no_moves fault

-- the play at p is one of the moves that the reader tries, and attains the code of the question
abbrev pub is_good : ReadingQuestion → BoardState → ℕ → Bool
is_good q pos p = is_among Candidates q pos p && attains_at q pos (answer_of q pos).code p

-- the reply gives the question's code on the position, whether the pass attains it, and for each point whether a play
-- there attains it and is one that the reader tries
pub record AreGoodMoves (q : ReadingQuestion) (pos : BoardState) (reply : MovesReply) : Type 0 where
  pub status : reply.status ≡ 0
  pub code : reply.code ≡ (answer_of q pos).code
  pub pass : reply.pass ≡ truth_number (attains_by_pass q pos (answer_of q pos).code)
  pub points : (p : ℕ) → p < largest_points → slice_index_or reply.points p 0 ≡ truth_number (is_good q pos p)

-- the reply gives the moves that attain the code of the question, or it is the reply to the fault
abbrev pub AnswersMoves : Result Asked DoorFault → MovesReply → Type 0
AnswersMoves (Ok asked) reply = AreGoodMoves asked.question asked.position reply
AnswersMoves (Err fault) reply = reply ≡ no_moves fault
