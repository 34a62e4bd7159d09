-- What the problem of a record has.
use Rattle.std.specs.Prelude.{◌≢◌, ℕ, ◌*◌, ◌<◌, Option, IfSome}
use Rattle.go_rules.specs.declared.Cell.TheVariants.{Empty}
use Rattle.go_rules.specs.Position.{BoardState}
use Rattle.go_rules.specs.Strings.{cell_at}

-- p is a point of the board, and a stone stands there
pub record HasStone (pos : BoardState) (p : ℕ) : Type 0 where
  pub on_board : p < pos.size * pos.size
  pub stone : cell_at pos.cells p ≢ Empty

-- the move is the pass, or the play at a point below n
abbrev pub IsMoveBelow : ℕ → Option ℕ → Type 0
IsMoveBelow n at = IfSome at (λ p. p < n)
