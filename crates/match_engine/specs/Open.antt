-- Empty points beside a point.
use Rattle.std.specs.Prelude.{◌≡◌, ℕ, ◌*◌, ◌<◌, true}
use Rattle.go_rules.specs.declared.Cell.TheVariants.{Empty}
use Rattle.go_rules.specs.Board.{are_neighbours}
use Rattle.go_rules.specs.Position.{BoardState}
use Rattle.go_rules.specs.Strings.{cell_at}

-- q is an empty neighbour of p
pub record IsEmptyBeside (pos : BoardState) (p q : ℕ) : Type 0 where
  pub on_board : q < pos.size * pos.size
  pub near : are_neighbours pos.size p q ≡ true
  pub is_empty : cell_at pos.cells q ≡ Empty
