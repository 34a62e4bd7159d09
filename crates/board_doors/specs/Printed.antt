-- The first proof of a caller's question: the reply, and the bytes that are written over those of the caller.
use Rattle.std.specs.Prelude.{ℕ, List, ◌++◌, length, drop, nat_lt, Result, Ok, Err, if◌then◌else◌}
use Rattle.read_rules.specs.Answer.{answer_of}
use Rattle.read_proof.specs.FirstProof.{first_text}
use Rattle.board_doors.specs.declared.fault.DoorFault.{DoorFault}
use Rattle.board_doors.specs.declared.fault.DoorFault.TheVariants.{ShortBuffer, TooLong}
use Rattle.board_doors.specs.declared.replies.ProofReply.{ProofReply}
use Rattle.board_doors.specs.Doors.{Asked}
use Rattle.board_doors.specs.Replies.{status_of}

-- the most bytes of a proof
abbrev pub most_text : ℕ
most_text = 60000

-- the bytes of the first proof of the code of a question
abbrev pub proof_text : Asked → List ℕ
proof_text asked = first_text asked.question asked.position

-- the reply to a question with a fault: the status of the fault, and 0 in all other fields
abbrev pub no_proof : DoorFault → ProofReply
no_proof fault = record { status = status_of fault; code = 0; length = 0 }

-- the reply to a code whose proof has n bytes, for a buffer with this much room
abbrev pub printed_reply : ℕ → ℕ → ℕ → ProofReply
printed_reply code n room =
    if nat_lt room n then record { status = status_of ShortBuffer; code = code; length = n }
    else record { status = 0; code = code; length = n }

-- these bytes with a text written over the first of them; the same bytes if the text is longer
abbrev pub printed_over : List ℕ → List ℕ → List ℕ
printed_over text old = if nat_lt (length old) (length text) then old else text ++ drop (length text) old

-- the reply to a question for its first proof, for a buffer with this much room; or the reply to the fault
abbrev pub proof_reply : Result Asked DoorFault → ℕ → ProofReply
proof_reply (Ok asked) room =
    if nat_lt most_text (length (proof_text asked)) then no_proof TooLong
    else printed_reply (answer_of asked.question asked.position).code (length (proof_text asked)) room
proof_reply (Err fault) room = no_proof fault

-- the caller's buffer afterwards: the proof and then the old bytes, if the proof was written; else the old bytes
abbrev pub proof_over : Result Asked DoorFault → List ℕ → List ℕ
proof_over (Ok asked) old =
    if nat_lt most_text (length (proof_text asked)) then old else printed_over (proof_text asked) old
proof_over (Err fault) old = old
