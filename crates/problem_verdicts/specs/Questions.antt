-- What a reading finds of a problem's question.
use Rattle.std.specs.Prelude.{◌≡◌, ◌≢◌, ℕ, Bool, ◌&&◌, ◌==◌, nat_lt, None}
use Rattle.std.specs.Ordering.{nat_cmp}
use Rattle.std.specs.FinSet as set
use Rattle.go_rules.specs.Position.{BoardState}
use Rattle.read_rules.specs.declared.question.Kind.{Kind}
use Rattle.read_rules.specs.declared.question.Kind.TheVariants.{Attack, Defend}
use Rattle.read_rules.specs.declared.question.ReadingQuestion.{ReadingQuestion}
use Rattle.read_rules.specs.declared.depths.Depths.{Depths}
use Rattle.read_rules.specs.Answer.{asked_in, answer_of}
use Rattle.read_all.specs.declared.moves.Among.{Among}
use Rattle.read_all.specs.declared.moves.Among.TheVariants.{Candidates, EveryPoint}
use Rattle.read_all.specs.AllMoves.{AreMovesAmong}
use Rattle.read_all.specs.FewestPlies.{AreFewest}
use Rattle.problem_verdicts.specs.declared.judged.Found.{Found}
use Rattle.problem_verdicts.specs.declared.scope.Scope.{Scope}
use Rattle.problem_verdicts.specs.declared.scope.Scope.TheVariants.{Tried, Anywhere}

-- the question about a string that the other side asks: a defence for an attack, and an attack for a defence
abbrev pub other_kind : Kind → Kind
other_kind Attack = Defend
other_kind Defend = Attack

-- the code of the question with these depths
abbrev pub code_of : BoardState → Kind → ℕ → Depths → ℕ
code_of pos kind target depths =
    (answer_of (asked_in depths.tree pos kind target depths.plies depths.wide) pos).code

-- no move is needed: the question has a code above 0, and the other side, asked with the same depths and playing first,
-- has code 0. A string that is attacked is captured already, and a string that is defended is safe.
abbrev pub is_needless : BoardState → Kind → ℕ → Depths → Bool
is_needless pos kind target depths =
    nat_lt 0 (code_of pos kind target depths) && code_of pos (other_kind kind) target depths == 0

-- the points that are judged: the candidates, or all points of the board
abbrev pub looked_at : Scope → Among
looked_at Tried = Candidates
looked_at Anywhere = EveryPoint

-- the question has this code on the position, and these are all moves of the scope that attain the code: the pass, and
-- the points among the judged ones
abbrev pub AreMovesOf : Scope → ReadingQuestion → BoardState → ℕ → Bool → set.FinSet nat_cmp → Type 0
AreMovesOf scope = AreMovesAmong (looked_at scope)

-- this is found of the question: its code, all moves of the scope that attain the code, the fewest plies with which the
-- question has it, and whether no move is needed
pub record IsFound (scope : Scope) (pos : BoardState) (kind : Kind) (target : ℕ) (depths : Depths) (f : Found)
    : Type 0 where
  pub moves : AreMovesOf scope (asked_in depths.tree pos kind target depths.plies depths.wide) pos f.code f.moves.pass
      f.moves.points
  pub fewest : f.code ≢ 0
      → AreFewest (asked_in depths.tree pos kind target depths.plies depths.wide) pos f.code f.fewest
  pub unattained : f.code ≡ 0 → f.fewest ≡ None
  pub needless : f.needless ≡ is_needless pos kind target depths
