-- All moves of a caller's question, and the numbers of the reply that tells them.
use Rattle.std.proofs.Common.{◌≡◌, ◌∙◌, ℕ, ◌+◌, ◌<◌, ◌&&◌, List, length, replicate, Result, Ok, Err, refl, ap, arith}
use Rattle.std.proofs.Common.{set as set_at, length-set, below_more}
use Rattle.std.proofs.lemmas.List.{get_or-set_same, get_or-set_other}
use Rattle.std.specs.Prelude.{slice_index_or}
use Rattle.std.specs.FinSet as set
use Rattle.std.specs.Ordering.{nat_cmp}
use Rattle.go_rules.specs.Board.{largest_points}
use Rattle.read_all.specs.declared.moves.Among.TheVariants.{Candidates}
use Rattle.read_all.specs.AllMoves.{is_among, attains_at, attains_by_pass}
use Rattle.board_doors.specs.declared.fault.DoorFault.{DoorFault}
use Rattle.board_doors.specs.declared.moves.MoveSet.{MoveSet}
use Rattle.board_doors.specs.declared.replies.MovesReply.{MovesReply}
use Rattle.board_doors.specs.Doors.{Asked}
use Rattle.board_doors.specs.Moves.{TellsMoves, RepliesMoves, AnswersMoves, no_moves}
use Rattle.board_doors.specs.Replies.{truth_number}

-- the first n bytes tell which points are in the set
pub record AreWritten (points : set.FinSet nat_cmp) (n : ℕ) (bytes : List ℕ) : Type 0 where
  pub whole : length bytes ≡ largest_points
  pub filled : (p : ℕ) → p < n → slice_index_or bytes p 0 ≡ truth_number (set.contains points p)

-- nothing is written yet
pub AreWritten-none : (points : set.FinSet nat_cmp) (bytes : List ℕ) → bytes ≡ replicate largest_points 0
    → AreWritten points 0 bytes
AreWritten-none points bytes e = record { whole = rw e refl; filled = λ p below. absurd (omega (arith, below)) }

-- one byte more
pub AreWritten-more : (points : set.FinSet nat_cmp) (n : ℕ) (bytes : List ℕ) (byte : ℕ) → AreWritten points n bytes
    → n < largest_points → byte ≡ truth_number (set.contains points n) → AreWritten points (n + 1) (set_at bytes n byte)
AreWritten-more points n bytes byte h small is = record {
  whole = length-set bytes n byte ∙ h.whole;
  filled = below_more _ _
      (λ p below. get_or-set_other bytes n p byte 0 (λ e. omega (arith, below, e)) ∙ h.filled p below)
      (get_or-set_same bytes n byte 0 (omega (arith, h.whole, small)) ∙ is);
}

-- numbers of all moves that attain the code tell them
pub moves_answered : (asked : Result Asked DoorFault) (found : Result MoveSet DoorFault) (reply : MovesReply)
    → TellsMoves asked found → RepliesMoves found reply → AnswersMoves asked reply
moves_answered (Ok asked) (Ok moves) reply told numbers =
    let q = asked.question in
    let pos = asked.position in
    record {
      status = numbers.status;
      code = numbers.code ∙ told.greatest;
      pass = numbers.pass ∙ ap truth_number told.passes
          ∙ ap (λ k. truth_number (attains_by_pass q pos k)) told.greatest;
      points = λ p small. numbers.points p small ∙ ap truth_number (told.plays p)
          ∙ ap (λ k. truth_number (is_among Candidates q pos p && attains_at q pos k p)) told.greatest;
    }
moves_answered (Ok asked) (Err why) reply told numbers = absurd told
moves_answered (Err fault) (Ok moves) reply told numbers = absurd told
moves_answered (Err fault) (Err why) reply told numbers = numbers ∙ ap no_moves told
