-- What is told of a move that is refused.
use Rattle.std.proofs.Common.{◌≡◌, ◌↔◌, ℕ, Result, Err, arith}
use Rattle.go_rules.specs.declared.Illegal.{Illegal}
use Rattle.go_rules.specs.Position.{BoardState}
use Rattle.go_strings.specs.declared.board.PlayError.{PlayError}
use Rattle.go_strings.specs.declared.board.PlayError.TheVariants.{Illegal as play_illegal, NoMemory as play_no_memory}
use Rattle.go_history.specs.declared.history.HistoryError.{HistoryError}
use Rattle.go_history.specs.declared.history.HistoryError.TheVariants.{Illegal as illegal, NoMemory as no_memory}

-- the outcome of a move
abbrev pub MoveOutcome : Type 0
MoveOutcome = Result (Unit {0}) HistoryError

-- a refusal is told exactly if the move is refused for it
pub illegal_is : (r : Result BoardState Illegal) (x : Illegal) → r ≡ Err x → (e : Illegal)
    → (◌≡◌ {A = MoveOutcome} (Err (illegal x)) (Err (illegal e))) ↔ (r ≡ Err e)
illegal_is r x is e = grind arith

-- a move whose failure tells the refusal has an outcome that tells it
pub told_is : (r : Result BoardState Illegal) (t : HistoryError) (e : Illegal) → ((t ≡ illegal e) ↔ (r ≡ Err e))
    → (◌≡◌ {A = MoveOutcome} (Err t) (Err (illegal e))) ↔ (r ≡ Err e)
told_is r t e both = grind arith

-- where a board has no memory for a move, the move is legal
pub no_memory_is : (r : Result BoardState Illegal) (e : Illegal) (t : PlayError) → t ≡ play_no_memory
    → ((◌≡◌ {A = Result ℕ PlayError} (Err t) (Err (play_illegal e))) ↔ (r ≡ Err e))
    → (◌≡◌ {A = MoveOutcome} (Err no_memory) (Err (illegal e))) ↔ (r ≡ Err e)
no_memory_is r e t is both = grind arith
