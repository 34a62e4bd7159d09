-- The defender runs: his play at a liberty of the target leaves the target more liberties than the attacker can take.
use Rattle.std.specs.Prelude.{◌≡◌, ◌≢◌, ◌⊎◌, ℕ, ◌-◌, true, false, List}
use Rattle.std.specs.Ordering.{nat_cmp}
use Rattle.std.specs.FinSet as set
use Rattle.go_rules.specs.declared.Cell.{Cell}
use Rattle.go_rules.specs.Strings.{cell_at}
use Rattle.go_rules.specs.Position.{BoardState, stone_of, is_banned}
use Rattle.read_rules.specs.Candidates.{IsEmptyNeighbour}
use Rattle.read_rules.specs.declared.turn.Turn.{Turn}
use Rattle.read_rules.specs.Bound.{outlasts}

-- x is known and not l, or x is an empty neighbour of l
abbrev pub IsLibertyAfter : ℕ → List Cell → set.FinSet nat_cmp → ℕ → ℕ → Type 0
IsLibertyAfter s cells known l x = ((set.contains known x ≡ true) × (x ≢ l)) ⊎ IsEmptyNeighbour s cells l x

-- the ban does not forbid the defender to play at l; and some of the liberties that the target has after it, kept, are
-- already too many, with n plies left after the play
pub record RunsFree (n : ℕ) (turn : Turn) (here : BoardState) (known : set.FinSet nat_cmp) (l : ℕ) : Type 0 where
  pub free : is_banned here.ban turn.defender l ≡ false
  pub kept : set.FinSet nat_cmp
  pub each : (x : ℕ) → set.contains kept x ≡ true → IsLibertyAfter here.size here.cells known l x
  pub many : outlasts turn.tree true n (turn.wide - 1) (set.len kept) ≡ true

-- the target is the defender's, and he runs free at one of the known points
pub record Escapes (n : ℕ) (turn : Turn) (here : BoardState) (known : set.FinSet nat_cmp) : Type 0 where
  pub own : cell_at here.cells turn.target ≡ stone_of turn.defender
  pub l : ℕ
  pub there : set.contains known l ≡ true
  pub runs : RunsFree n turn here known l
