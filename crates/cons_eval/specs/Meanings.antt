-- What the value of an expression depends on: a position, the friend, the points of its arguments, and the codes of
-- readings.
use Rattle.std.specs.Prelude.{◌≡◌, ℕ, ◌*◌, ◌≤◌, nat_lt, Bool, true, ◌&&◌, List, [], ◌∷◌, Option, Some, None}
use Rattle.std.specs.List.{list_all}
use Rattle.pat_types.specs.declared.expr.Arg.{Arg}
use Rattle.pat_types.specs.declared.expr.Expr.{Expr, Num, Call, Not', Neg', Bin'}
use Rattle.go_rules.specs.declared.Colour.{Colour}
use Rattle.go_rules.specs.Position.{BoardState}
use Rattle.cons_eval.specs.Readings.{Codes}

-- what the value of an expression depends on
pub record Meanings : Type 0 where
  -- the position before the pattern's move
  pub position : BoardState
  -- the colour that plays the pattern's move
  pub friend : Colour
  -- the point of each argument, if it has one
  pub point : Arg → Option ℕ
  -- the code of each reading
  pub code : Codes

-- there is no point, or it is on a board of size s
abbrev pub is_on_board : ℕ → Option ℕ → Bool
is_on_board s None = true
is_on_board s (Some p) = nat_lt p (s * s)

-- the point of each argument that has one is on a board of size s
abbrev pub are_on_board : ℕ → (Arg → Option ℕ) → List Arg → Bool
are_on_board s point args = list_all (λ a. is_on_board s (point a)) args

-- the point of each argument of the expression that has one is on the board
unfoldable pub are_placed : Meanings → Expr → Bool
are_placed m (Num n) = true
are_placed m (Call f args) = are_on_board m.position.size m.point args
are_placed m (Not' p e) = are_placed m e
are_placed m (Neg' p e) = are_placed m e
are_placed m (Bin' op p a q b) = are_placed m a && are_placed m b

-- no count is lower than before
abbrev pub NoneLower : List ℕ → List ℕ → Type 0
NoneLower [] [] = Unit {0}
NoneLower [] (n ∷ new) = ⊥
NoneLower (o ∷ old) [] = ⊥
NoneLower (o ∷ old) (n ∷ new) = (o ≤ n) × NoneLower old new

-- what contracts see of an `Env`: what the value of an expression depends on, numbers that no call changes, how many
-- readings were asked for, and counts that no call lowers
pub record EnvView : Type 0 where
  pub meanings : Meanings
  pub fixed : List ℕ
  pub asked : ℕ
  pub counts : List ℕ

-- a call may lead from old to new: only the readings asked for and the counts may differ, and no count is lower
pub record KeepsMeanings (old new : EnvView) : Type 0 where
  pub meanings : new.meanings ≡ old.meanings
  pub fixed : new.fixed ≡ old.fixed
  pub counts : NoneLower old.counts new.counts
