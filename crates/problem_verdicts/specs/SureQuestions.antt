-- What is found of a problem's question if its answer has to hold against every reply.
use Rattle.std.specs.Prelude.{◌≡◌, ◌≢◌, ℕ, ◌+◌, ◌-◌, ◌*◌, ◌<◌, ◌≤◌, Bool, true, ◌&&◌, ◌==◌, nat_lt, Option, None, Some}
use Rattle.std.specs.Ordering.{nat_cmp}
use Rattle.std.specs.FinSet as set
use Rattle.go_rules.specs.Position.{BoardState}
use Rattle.read_rules.specs.Answer.{asked_in, first_node}
use Rattle.read_rules.specs.declared.depths.Depths.{Depths}
use Rattle.read_rules.specs.declared.node.Node.{Node}
use Rattle.read_rules.specs.declared.question.Kind.{Kind}
use Rattle.read_rules.specs.declared.question.ReadingQuestion.{ReadingQuestion}
use Rattle.sure_rules.specs.SureAnswer.{surely_succeeds, pass_holds, sure_answer_of}
use Rattle.sure_rules.specs.SureTree.{is_tried}
use Rattle.problem_verdicts.specs.Questions.{other_kind, IsFound}
use Rattle.problem_verdicts.specs.declared.judged.Found.{Found}
use Rattle.problem_verdicts.specs.declared.replies.Replies.{Replies}
use Rattle.problem_verdicts.specs.declared.replies.Replies.TheVariants as replies
use Rattle.problem_verdicts.specs.declared.scope.Scope.{Scope}
use Rattle.problem_verdicts.specs.declared.scope.Scope.TheVariants.{Tried, Anywhere}

-- p is judged. In the scope Tried: the sure tree tries p, which at the defender's turn is every point of the board. In
-- the scope Anywhere: p is any point of the board.
abbrev pub is_seen : Scope → Node → BoardState → ℕ → Bool
is_seen Tried node pos p = is_tried node pos p
is_seen Anywhere node pos p = nat_lt p (pos.size * pos.size)

-- p is one of the points; None stands for every point
abbrev pub is_in : Option (set.FinSet nat_cmp) → ℕ → Bool
is_in None p = true
is_in (Some points) p = set.contains points p

-- the play at p attains the sure code: the code is above 0, p can be played under the code's ko allowances, and with
-- one ply less after that play the target is surely captured if the attacker is asked about, and is not if the defender
-- is
abbrev pub surely_attains_at : ReadingQuestion → BoardState → ℕ → ℕ → Bool
surely_attains_at q pos code p = nat_lt 0 code && surely_succeeds (q.plies - 1) (first_node q code) pos p

-- the pass attains the sure code: the code is above 0, the defender is asked about, and under the code's ko allowances
-- the target is not surely captured after the pass, with one ply less
abbrev pub surely_attains_by_pass : ReadingQuestion → BoardState → ℕ → Bool
surely_attains_by_pass q pos code = nat_lt 0 code && pass_holds (q.plies - 1) (first_node q code) pos

-- the question has this sure code on the position, and these are all moves of the scope that attain the code: the pass,
-- and the points among the judged ones
pub record AreSureMoves (scope : Scope) (q : ReadingQuestion) (pos : BoardState) (code : ℕ) (pass : Bool)
    (points : set.FinSet nat_cmp) : Type 0 where
  pub greatest : code ≡ (sure_answer_of q pos).code
  pub passes : pass ≡ surely_attains_by_pass q pos code
  pub plays : (p : ℕ) → set.contains points p
      ≡ (is_seen scope (first_node q code) pos p && surely_attains_at q pos code p)

-- the sure code of the question with n plies, and with these depths in all else
abbrev pub sure_code_with : BoardState → Kind → ℕ → Depths → ℕ → ℕ
sure_code_with pos kind target depths n = (sure_answer_of (asked_in depths.tree pos kind target n depths.wide) pos).code

-- the sure code of the question with these depths
abbrev pub sure_code : BoardState → Kind → ℕ → Depths → ℕ
sure_code pos kind target depths = sure_code_with pos kind target depths depths.plies

-- no move is needed: the question has a sure code above 0, and the other side, asked with the same depths and playing
-- first, has sure code 0. A string that is attacked is surely captured already; no capture of a string that is defended
-- is sure, whoever plays first.
abbrev pub is_surely_needless : BoardState → Kind → ℕ → Depths → Bool
is_surely_needless pos kind target depths =
    nat_lt 0 (sure_code pos kind target depths) && sure_code pos (other_kind kind) target depths == 0

-- with each number of plies from 1 to n - 1 the question has a smaller sure code
abbrev pub HasLessSurelyBelow : BoardState → Kind → ℕ → Depths → ℕ → ℕ → Type 0
HasLessSurelyBelow pos kind target depths code n =
    (m : ℕ) → 0 < m → m < n → sure_code_with pos kind target depths m < code

-- these are the fewest plies, from 1 to those of the depths, with which the question has this sure code or a greater
-- one; None if the question has a smaller one with each of these numbers
abbrev pub AreFewestSurely : BoardState → Kind → ℕ → Depths → ℕ → Option ℕ → Type 0
AreFewestSurely pos kind target depths code (Some n) =
    (0 < n) × (n ≤ depths.plies) × (code ≤ sure_code_with pos kind target depths n)
    × HasLessSurelyBelow pos kind target depths code n
AreFewestSurely pos kind target depths code None = HasLessSurelyBelow pos kind target depths code (depths.plies + 1)

-- this is found of the question by sure answers: its code, all moves of the scope that attain the code, the fewest
-- plies with which the question has it, and whether no move is needed
pub record IsSurelyFound (scope : Scope) (pos : BoardState) (kind : Kind) (target : ℕ) (depths : Depths) (f : Found)
    : Type 0 where
  pub moves : AreSureMoves scope (asked_in depths.tree pos kind target depths.plies depths.wide) pos f.code f.moves.pass
      f.moves.points
  pub fewest : f.code ≢ 0 → AreFewestSurely pos kind target depths f.code f.fewest
  pub unattained : f.code ≡ 0 → f.fewest ≡ None
  pub needless : f.needless ≡ is_surely_needless pos kind target depths

-- this is found of the question by the answers that hold against these replies
abbrev pub IsFoundAgainst : Replies → Scope → BoardState → Kind → ℕ → Depths → Found → Type 0
IsFoundAgainst replies.Tried = IsFound
IsFoundAgainst replies.Every = IsSurelyFound
