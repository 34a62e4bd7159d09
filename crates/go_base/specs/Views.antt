-- What a question to a view keeps, and sets of points that a question may ask for.
use Rattle.std.specs.Prelude.{◌≡◌, ℕ, ◌*◌, Bool, true, false, nat_lt, ◌==◌, ◌&&◌, ◌||◌, List}
use Rattle.go_rules.specs.declared.Cell.{Cell}
use Rattle.go_rules.specs.Position.{BoardState}
use Rattle.go_rules.specs.Board.{are_neighbours}

-- only points of S were asked for, and the cells did not change
pub record Looks {V : Type 0} (cells : V → BoardState → List Cell) (asks : V → V → (ℕ → Bool)
    → Type 0) (old new : V) (S : ℕ → Bool) : Type 0 where
  pub asked : asks old new S
  pub same : (pos : BoardState) → cells new pos ≡ cells old pos

-- the set of every point
abbrev pub anywhere : ℕ → Bool
anywhere q = true

-- the set of no point
abbrev pub nowhere : ℕ → Bool
nowhere q = false

-- the set of p alone
abbrev pub alone : ℕ → ℕ → Bool
alone p q = q == p

-- the set of the neighbours of p on a board of size s
abbrev pub neighbours_of : ℕ → ℕ → ℕ → Bool
neighbours_of s p q = nat_lt q (s * s) && are_neighbours s p q

-- the set of p and its neighbours on a board of size s
abbrev pub around : ℕ → ℕ → ℕ → Bool
around s p q = nat_lt q (s * s) && ((q == p) || are_neighbours s p q)
