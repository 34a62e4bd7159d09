-- What the steps of the reader find.
use Rattle.std.specs.Prelude.{◌≡◌, ◌≢◌, ℕ, ◌*◌, ◌<◌, ◌≤◌, ◌==◌, ◌&&◌, Bool, true, false, not, List, Some, None}
use Rattle.std.specs.Prelude.{if◌then◌else◌}
use Rattle.std.specs.Ordering.{nat_cmp}
use Rattle.std.specs.FinSet as set
use Rattle.go_rules.specs.declared.Cell.{Cell}
use Rattle.go_rules.specs.Board.{are_neighbours}
use Rattle.go_rules.specs.Strings.{cell_at, is_liberty, liberties, liberty_points}
use Rattle.go_rules.specs.Position.{BoardState, IsPosition, other, stone_of, is_banned}
use Rattle.read_tree.specs.declared.outlook.Outlook.{Outlook}
use Rattle.read_tree.specs.declared.outlook.Outlook.TheVariants.{Safe, Taken, Open}
use Rattle.trial_board.specs.declared.moves.TrialMove.{TrialMove}
use Rattle.trial_board.specs.Trials.{tail}
use Rattle.read_rules.specs.declared.node.Node.{Node}
use Rattle.read_rules.specs.Bound.{outlasts_at}
use Rattle.read_rules.specs.declared.question.ReadingQuestion.{ReadingQuestion}
use Rattle.read_rules.specs.declared.question.Spot.{Spot}
use Rattle.read_rules.specs.declared.question.Spot.TheVariants.{Pass}
use Rattle.read_rules.specs.declared.question.Answer.{Answer}
use Rattle.read_rules.specs.declared.turn.Turn.{Turn}
use Rattle.read_tree.specs.declared.allowances.Allowances.{Allowances}
use Rattle.read_tree.specs.declared.making.Made.{Made}
use Rattle.read_tree.specs.declared.making.Made.TheVariants.{Not, Legal, Allowed}
use Rattle.read_rules.specs.GameTree.{child_of, first_move, pass_saves, succeeds}
use Rattle.read_rules.specs.Candidates.{is_candidate}
use Rattle.read_rules.specs.Trees.{is_wider}
use Rattle.read_rules.specs.Turns.{next_turn}
use Rattle.read_tree.specs.Allowances.{Ko, neither_may, has, has_some, own_ko, under, ko_of, best_code}
use Rattle.read_rules.specs.ActiveArea.{IsNodeOf}
pub use Rattle.read_rules.specs.GoodMoves.{IsOnBoard}

-- the moves without the newest if a play was made, else all moves
abbrev pub tail_if : Made → List TrialMove → List TrialMove
tail_if Not moves = moves
tail_if Legal moves = tail moves
tail_if Allowed moves = tail moves

-- what was found of the target's liberties, with n plies left: too many exactly if the target has too many, and else
-- all of them
pub record TellsLiberties (turn : Turn) (n s : ℕ) (cells : List Cell) (found : set.FinSet nat_cmp) : Type 0 where
  pub many : outlasts_at turn n (set.len found)
      ≡ outlasts_at turn n (liberties s cells turn.target)
  pub all : outlasts_at turn n (set.len found) ≡ false
      → found ≡ liberty_points s cells turn.target

-- where the play at p leads from here, under each allowance: nowhere; or to new, and the allowance is kept; or to new
-- under the mover's own allowance alone, which is spent. If own is false, a play that leads nowhere may still be
-- possible under the mover's own allowance
abbrev pub Makes : Made → Turn → Bool → BoardState → ℕ → BoardState → Type 0
Makes Not turn own here p new = (ko : Ko) → (ko ≡ own_ko turn.attacker_to_play → own ≡ true)
    → child_of (under turn ko) here p ≡ None
Makes Legal turn own here p new = (ko : Ko) → child_of (under turn ko) here p ≡ Some (under (next_turn turn) ko, new)
Makes Allowed turn own here p new =
    (child_of (under turn (own_ko turn.attacker_to_play)) here p ≡ Some (under (next_turn turn) neither_may, new))
    × ((ko : Ko) → ko ≢ own_ko turn.attacker_to_play → child_of (under turn ko) here p ≡ None)

-- the side that moved has its way: the attacker if he won, the defender if the attacker did not win
abbrev pub has_way : Bool → Bool → Bool
has_way attacker won = if attacker then won else not won

-- under each of the asked allowances the node is in one of the trees of the question
pub record AreNodesOf (q : ReadingQuestion) (root : BoardState) (n : ℕ) (turn : Turn) (asked : Allowances)
    (here : BoardState) : Type 0 where
  pub each : (ko : Ko) → has asked ko ≡ true → IsNodeOf q root n (under turn ko) here

-- the answer if the target has too many liberties
abbrev pub unread : Bool → Answer
unread attack = if attack then record { code = 0; at = None } else record { code = 3; at = Some Pass }

-- the best answer so far; or the move spot, if it has its way under some of the allowances above the best code so far
abbrev pub better : Answer → Bool → Allowances → Spot → Answer
better best attack good spot =
    if has_some good then record { code = best_code good best.code attack; at = Some spot } else best

-- the node under the allowance of a code
abbrev pub node_of : Turn → ℕ → Node
node_of turn code = under turn (ko_of turn.attacker_to_play code)

-- best is the answer by the pass and the candidates that were tried: none of these attains a greater code, and its move
-- is the first that attains its code
pub record IsBest (n : ℕ) (turn : Turn) (here : BoardState) (tried : ℕ → Bool) (best : Answer) : Type 0 where
  pub bounded : best.code ≤ 3
  pub no_pass : (code : ℕ) → best.code < code → code ≤ 3 → pass_saves n (node_of turn code) here ≡ false
  pub no_point : (code : ℕ) → best.code < code → code ≤ 3 → (q : ℕ)
      → (tried q && succeeds n (node_of turn code) here q) ≡ false
  pub no_move : best.code ≡ 0 → best.at ≡ None
  pub move : best.code ≢ 0 → (spot : Spot) × (best.at ≡ Some spot)
      × (Some spot ≡ first_move n (node_of turn best.code) here)

-- missing is a part of asked: no candidate that was tried succeeds under an allowance of missing, and under each other
-- allowance of asked some candidate succeeds
pub record IsLeft (n : ℕ) (turn : Turn) (here : BoardState) (candidate tried : ℕ → Bool) (asked missing : Allowances)
    : Type 0 where
  pub asked_for : (ko : Ko) → has missing ko ≡ true → has asked ko ≡ true
  pub none : (ko : Ko) → has missing ko ≡ true → (q : ℕ) → tried q ≡ true → (candidate q && succeeds n (under turn ko)
      here q) ≡ false
  pub given : (ko : Ko) → has asked ko ≡ true → has missing ko ≡ false
      → (q : ℕ) × (candidate q ≡ true) × (succeeds n (under turn ko) here q ≡ true)

-- the outlook is that the target is safe
abbrev pub is_safe : Outlook → Bool
is_safe Safe = true
is_safe Taken = false
is_safe Open = false

-- if the target is taken now, no lone stone is taken: the tree is the stated one, or a neighbour of the target's point
-- holds a stone of the defender, which is taken with it
pub data IsTakenForGood (turn : Turn) (here : BoardState) : Type 0 where
  in_stated : is_wider turn.tree ≡ false → IsTakenForGood turn here
  with_neighbour : (q : ℕ) → q < here.size * here.size → are_neighbours here.size turn.target q ≡ true
      → cell_at here.cells q ≡ stone_of turn.defender → IsTakenForGood turn here

-- it is the attacker's turn; l is the only liberty of the target, which is of the defender's colour; the ban lets the
-- attacker play at l; and the target is then not taken back
pub record IsTaken (turn : Turn) (here : BoardState) : Type 0 where
  pub attacks : turn.attacker_to_play ≡ true
  pub enemy : cell_at here.cells turn.target ≡ stone_of turn.defender
  pub l : ℕ
  pub liberty : is_liberty here.size here.cells turn.target l ≡ true
  pub only : (x : ℕ) → is_liberty here.size here.cells turn.target x ≡ true → x ≡ l
  pub free : is_banned here.ban (other turn.defender) l ≡ false
  pub for_good : IsTakenForGood turn here

-- the defender is to play, with n plies left after his move; the target is his and has one liberty; and if it is taken
-- it is not taken back
pub record IsInAtari (n : ℕ) (turn : Turn) (here : BoardState) : Type 0 where
  pub defends : turn.attacker_to_play ≡ false
  pub plies : n ≢ 0
  pub own : cell_at here.cells turn.target ≡ stone_of turn.defender
  pub one : liberties here.size here.cells turn.target ≡ 1
  pub sound : IsPosition here
  pub for_good : IsTakenForGood turn here

-- found has exactly the allowances of asked under which some point that passes the test succeeds
pub record TellsBy (n : ℕ) (turn : Turn) (here : BoardState) (points : ℕ
    → Bool) (asked found : Allowances) : Type 0 where
  pub asked_for : (ko : Ko) → has found ko ≡ true → has asked ko ≡ true
  pub given : (ko : Ko) → has found ko ≡ true → (q : ℕ) × (points q ≡ true) × (succeeds n (under turn ko) here q ≡ true)
  pub none : (ko : Ko) → has asked ko ≡ true → has found ko ≡ false → (q : ℕ)
      → (points q && succeeds n (under turn ko) here q) ≡ false

-- p is a candidate at the turn, but no liberty of the target
abbrev pub is_off_liberties : Turn → BoardState → ℕ → Bool
is_off_liberties turn here p =
    is_candidate turn here p && not (is_liberty here.size here.cells turn.target p)

-- the attacker is to play, the target holds a defender's stone after the play at p, and next has the points of known
-- other than p
pub record IsCarried (turn : Turn) (new : BoardState) (p : ℕ) (known next : set.FinSet nat_cmp) : Type 0 where
  pub attacks : turn.attacker_to_play ≡ true
  pub enemy : cell_at new.cells turn.target ≡ stone_of turn.defender
  pub next_is : (q : ℕ) → set.contains next q ≡ (set.contains known q && not (q == p))
