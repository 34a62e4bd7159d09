-- Moves of one side: the pass, and points at which it plays.
use Rattle.std.specs.Prelude.{◌≡◌, ℕ, ◌+◌, Bool, true, false, ◌&&◌, ◌||◌, ◌==◌, not, Option, Some, None, if◌then◌else◌}
use Rattle.std.specs.FinSet as set
use Rattle.problem_verdicts.specs.declared.moves.Moves.{Moves}

-- each move of `few` is a move of `many`
abbrev pub are_among : Moves → Moves → Bool
are_among few many = (not few.pass || many.pass) && set.is_subset few.points many.points

-- the number of these moves
abbrev pub count_of : Moves → ℕ
count_of m = set.len m.points + (if m.pass then 1 else 0)

-- p is the point of the move; the pass has no point
abbrev pub is_some_of : Option ℕ → ℕ → Bool
is_some_of None p = false
is_some_of (Some q) p = p == q

-- each of these moves is one of those: the pass, if it is one of these, and each point
pub record AreAmong (these those : Moves) : Type 0 where
  pub passes : these.pass ≡ true → those.pass ≡ true
  pub plays : (p : ℕ) → set.contains these.points p ≡ true → set.contains those.points p ≡ true

-- these and those are the same moves: both or neither have the pass, and each point is in both or in neither
pub record AreSameMoves (these those : Moves) : Type 0 where
  pub passes : these.pass ≡ those.pass
  pub plays : (p : ℕ) → set.contains these.points p ≡ set.contains those.points p
