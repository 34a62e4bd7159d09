-- What a function of the walk over the game tree needs, and what it answers, on every position that agrees with what
-- was seen.
use Rattle.std.specs.Prelude.{◌≡◌, ◌⊎◌, ℕ, ◌+◌, ◌*◌, ◌<◌, Bool, true, List, length}
use Rattle.std.specs.Ordering.{nat_cmp}
use Rattle.std.specs.FinSet as set
use Rattle.go_rules.specs.Position.{BoardState}
use Rattle.go_rules.specs.Strings.{liberty_points}
use Rattle.go_base.specs.Facts.{Fact, Agrees}
use Rattle.trial_board.specs.Trials.{Trying, after, most_moves}
use Rattle.read_rules.specs.declared.question.ReadingQuestion.{ReadingQuestion}
use Rattle.read_rules.specs.ActiveArea.{IsUndecided, InActiveArea, AddsNear}
use Rattle.read_rules.specs.declared.turn.Turn.{Turn}
use Rattle.read_tree.specs.declared.allowances.Allowances.{Allowances}
use Rattle.read_rules.specs.GameTree.{has_lost_one_stone}
use Rattle.read_tree.specs.Allowances.{Ko, neither_may, under, has_some}
use Rattle.read_tree.specs.declared.table.Entry.{Entry}
use Rattle.read_tree.specs.Stages.{is_capture}
use Rattle.read_tree.specs.Steps.{AreNodesOf}
use Rattle.read_tree.specs.Table.{IsTrueTableAt}

-- p is a point of the board
abbrev pub IsPointOf : {L : Type 0} → (L → BoardState) → Trying L → ℕ → Type 0
IsPointOf shows board p = p < (shows board.look).size * (shows board.look).size

-- on each position that agrees with what was seen, the points are the liberties of the target after the moves
abbrev pub AreLibertiesOf : {L : Type 0} → (L → Fact → Bool) → Trying L → ℕ → set.FinSet nat_cmp → Type 0
AreLibertiesOf seen board target points = (pos : BoardState) → Agrees (seen board.look) pos
    → points ≡ liberty_points pos.size (after pos board.moves).cells target

-- on each position that agrees with what was seen, the points are the captures next to the target after the moves
abbrev pub AreCapturesOf : {L : Type 0} → (L → Fact → Bool) → Trying L → ℕ → set.FinSet nat_cmp → Type 0
AreCapturesOf seen board target points = (pos : BoardState) → Agrees (seen board.look) pos → (p : ℕ)
    → set.contains points p ≡ is_capture (after pos board.moves) target p

-- P is true of the position after the old moves, on each position that agrees with what is seen now
abbrev pub OnEachAgreeing : {L : Type 0} → (L → Fact → Bool) → Trying L → Trying L → (BoardState → Type 0) → Type 0
OnEachAgreeing seen old new P = (pos : BoardState) → Agrees (seen new.look) pos → P (after pos old.moves)

-- what was looked at since lies in the active area of each question that has the turn's node, with n plies left, in its
-- trees under each of the asked allowances, if that node is undecided and P is true of the position
abbrev pub LooksNearWhere : {L : Type 0} → (L → Fact → Bool) → Trying L → Trying L → ℕ → Turn → Allowances
    → (BoardState → Type 0) → Type 0
LooksNearWhere seen old new n turn asked P = OnEachAgreeing seen old new (λ here.
    (q : ReadingQuestion) (root : BoardState) → AreNodesOf q root n turn asked here
    → ((ko : Ko) → IsUndecided (under turn ko) here) → P here
    → AddsNear (seen old.look) (seen new.look) (InActiveArea q root))

-- what was looked at since lies in the active area of each question that has the turn's node, with n plies left, in its
-- trees under each of the asked allowances, if that node is undecided
abbrev pub LooksNear : {L : Type 0} → (L → Fact → Bool) → Trying L → Trying L → ℕ → Turn → Allowances → Type 0
LooksNear seen old new n turn asked = OnEachAgreeing seen old new (λ here.
    (q : ReadingQuestion) (root : BoardState) → AreNodesOf q root n turn asked here
    → ((ko : Ko) → IsUndecided (under turn ko) here)
    → AddsNear (seen old.look) (seen new.look) (InActiveArea q root))

-- what was looked at since lies at the target's point or in the active area of each question that has the turn's node,
-- with n plies left, in its trees under each of the asked allowances
abbrev pub LooksNearOrAt : {L : Type 0} → (L → Fact → Bool) → Trying L → Trying L → ℕ → Turn → Allowances → Type 0
LooksNearOrAt seen old new n turn asked = OnEachAgreeing seen old new (λ here.
    (q : ReadingQuestion) (root : BoardState) → AreNodesOf q root n turn asked here
    → AddsNear (seen old.look) (seen new.look) (λ p. (p ≡ turn.target) ⊎ InActiveArea q root p))

-- what was looked at since lies in the active area of each question that has the turn's node, with n plies left, in its
-- trees under each of the asked allowances, if the defender has just lost a lone stone
abbrev pub LooksNearLoss : {L : Type 0} → (L → Fact → Bool) → Trying L → Trying L → ℕ → Turn → Allowances → Type 0
LooksNearLoss seen old new n turn asked = OnEachAgreeing seen old new (λ here.
    (q : ReadingQuestion) (root : BoardState) → AreNodesOf q root n turn asked here
    → has_lost_one_stone (under turn neither_may) here ≡ true
    → AddsNear (seen old.look) (seen new.look) (InActiveArea q root))

-- a function of the walk may go on with n plies left after a move: there is room for them, the target is on the board,
-- some allowance is asked for, the points are the target's liberties, and the table is true
pub record IsReady {L : Type 0} (shows : L → BoardState) (seen : L → Fact → Bool) (board : Trying L) (turn : Turn)
    (n : ℕ) (asked : Allowances) (points : set.FinSet nat_cmp) (entries : List Entry) : Type 0 where
  pub room : length board.moves + n < most_moves
  pub target : IsPointOf shows board turn.target
  pub some : has_some asked ≡ true
  pub liberties : AreLibertiesOf seen board turn.target points
  pub table : IsTrueTableAt (seen board.look) turn entries
