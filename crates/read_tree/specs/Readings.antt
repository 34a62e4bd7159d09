-- What the reading of a question needs on a trial board, and what its answer is.
use Rattle.std.specs.Prelude.{◌≡◌, ◌↔◌, ◌+◌, ◌<◌, ◌≤◌, Bool, true, false, [], length, IsNone, IfSome}
use Rattle.std.specs.Ordering.{nat_cmp}
use Rattle.std.specs.FinSet as set
use Rattle.go_rules.specs.Position.{BoardState}
use Rattle.go_base.specs.Facts.{Fact}
use Rattle.trial_board.specs.Trials.{Trying, KeepsTrial, most_moves}
use Rattle.read_rules.specs.Answer.{first_turn}
use Rattle.read_rules.specs.declared.question.ReadingQuestion.{ReadingQuestion}
use Rattle.read_rules.specs.declared.question.Answer.{Answer}
use Rattle.read_rules.specs.ActiveArea.{InActiveArea, AddsNear}
use Rattle.read_rules.specs.Answer.{is_about, answer_of}
use Rattle.read_rules.specs.GoodMoves.{IsOnBoard}
use Rattle.read_rules.specs.Bound.{outlasts_at}
use Rattle.read_tree.specs.Walk.{IsPointOf, AreLibertiesOf, OnEachAgreeing}

-- the look with no trial moves, and no play tried
abbrev pub untried : {L : Type 0} → L → Trying L
untried look = record { look = look; moves = []; count = 0 }

-- the question has plies and the board has room for them; the target is on the board; and the points are the target's
-- liberties, which are not too many
pub record IsToRead {L : Type 0} (shows : L → BoardState) (seen : L → Fact → Bool) (board : Trying L)
    (q : ReadingQuestion) (known : set.FinSet nat_cmp) : Type 0 where
  pub plies : 0 < q.plies
  pub room : length board.moves + q.plies ≤ most_moves
  pub target : IsPointOf shows board q.target
  pub liberties : AreLibertiesOf seen board q.target known
  pub few : outlasts_at (first_turn q) q.plies (set.len known) ≡ false

-- the answer has a code, and a move on the board exactly if the code is not 0; and on each position that agrees with
-- what is seen now and that the question is about, it is the question's answer, and what was looked at since lies in
-- the active area
pub record AnswersQuestion {L : Type 0} (shows : L → BoardState) (seen : L → Fact → Bool) (old new : Trying L)
    (q : ReadingQuestion) (answer : Answer) : Type 0 where
  pub stays : KeepsTrial shows seen old new
  pub code : answer.code ≤ 3
  pub none : IsNone answer.at ↔ (answer.code ≡ 0)
  pub on_board : IfSome answer.at (IsOnBoard (shows old.look).size)
  pub over : OnEachAgreeing seen old new (λ here. is_about q here ≡ true → answer ≡ answer_of q here)
  pub near : OnEachAgreeing seen old new (λ here. is_about q here ≡ true
      → AddsNear (seen old.look) (seen new.look) (InActiveArea q here))
