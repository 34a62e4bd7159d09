-- All moves by which a question attains its code: the defender's pass, and the points at which a play does.
use Rattle.std.specs.Prelude.{◌≡◌, ℕ, ◌-◌, ◌*◌, ◌⊎◌, Bool, true, ◌&&◌, nat_lt}
use Rattle.std.specs.Ordering.{nat_cmp}
use Rattle.std.specs.FinSet as set
use Rattle.go_rules.specs.Position.{BoardState}
use Rattle.read_rules.specs.Answer.{first_turn}
use Rattle.read_rules.specs.declared.question.ReadingQuestion.{ReadingQuestion}
use Rattle.read_rules.specs.Candidates.{is_candidate}
use Rattle.read_rules.specs.GameTree.{succeeds, pass_saves}
use Rattle.read_rules.specs.Answer.{first_node, answer_of}
use Rattle.read_all.specs.declared.moves.Among.{Among}
use Rattle.read_all.specs.declared.moves.Among.TheVariants.{Candidates, EveryPoint}

-- the play at p attains the code: the code is above 0, and under its ko allowances p can be played, and with one ply
-- less after that play the side that is asked about has its way: in an attack the target is captured, in a defence it
-- is not
abbrev pub attains_at : ReadingQuestion → BoardState → ℕ → ℕ → Bool
attains_at q pos code p = nat_lt 0 code && succeeds (q.plies - 1) (first_node q code) pos p

-- the pass attains the code: the code is above 0, the defender is asked about, and under the code's ko allowances the
-- target is not captured with one ply less after his pass
abbrev pub attains_by_pass : ReadingQuestion → BoardState → ℕ → Bool
attains_by_pass q pos code = nat_lt 0 code && pass_saves (q.plies - 1) (first_node q code) pos

-- p is one of the points that are tried: of the candidates of the question, or of all points of the board
abbrev pub is_among : Among → ReadingQuestion → BoardState → ℕ → Bool
is_among Candidates q pos p = is_candidate (first_turn q) pos p
is_among EveryPoint q pos p = nat_lt p (pos.size * pos.size)

-- the code is that of the question on the position, pass says whether the pass attains it, and the points are all
-- points that are tried at which a play attains it
pub record AreMovesAmong (among : Among) (q : ReadingQuestion) (pos : BoardState) (code : ℕ) (pass : Bool)
    (points : set.FinSet nat_cmp) : Type 0 where
  pub greatest : code ≡ (answer_of q pos).code
  pub passes : pass ≡ attains_by_pass q pos code
  pub plays : (p : ℕ) → set.contains points p ≡ (is_among among q pos p && attains_at q pos code p)

-- the question has this code on the position, and these are all of its moves that attain the code: the pass, and the
-- candidates
abbrev pub AreAllMoves : ReadingQuestion → BoardState → ℕ → Bool → set.FinSet nat_cmp → Type 0
AreAllMoves = AreMovesAmong Candidates

-- the question has this code on the position, and these are all moves that attain the code: the pass, and the points of
-- the board, candidates or not
abbrev pub AreMovesAnywhere : ReadingQuestion → BoardState → ℕ → Bool → set.FinSet nat_cmp → Type 0
AreMovesAnywhere = AreMovesAmong EveryPoint

-- the pass is one of the moves, or the play at some point is
abbrev pub HasMove : Bool → set.FinSet nat_cmp → Type 0
HasMove pass points = (pass ≡ true) ⊎ ((p : ℕ) × (set.contains points p ≡ true))
