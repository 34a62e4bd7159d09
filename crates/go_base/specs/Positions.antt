-- How a position is kept: the cells past the board are empty.
use Rattle.std.specs.Prelude.{◌≡◌, ℕ, ◌-◌, ◌*◌, ◌≤◌, length, List, ◌++◌, take, drop, replicate, Option}
use Rattle.std.proofs.Common.{ap, sym, ◌∙◌}
use Rattle.std.proofs.lemmas.List.{take-append-drop}
use Rattle.go_rules.specs.Board.{largest_size, largest_points}
use Rattle.go_rules.specs.declared.Cell.{Cell}
use Rattle.go_rules.specs.declared.Colour.{Colour}
use Rattle.go_rules.specs.declared.Cell.TheVariants.{Empty}
use Rattle.go_rules.specs.Position.{BoardState, IsPosition}
use Rattle.go_base.specs.declared.position.Position.TheInside.{Inside}
use Rattle.go_base.specs.declared.view.Flat.{Flat}

-- the cells past a board of size s, up to the size of the largest board: all are empty
abbrev pub padding : ℕ → List Cell
padding s = replicate (largest_points - s * s) Empty

-- the position that the fields keep
abbrev pub position_of : Inside → BoardState
position_of a = record { size = a.size; cells = take (a.size * a.size) a.cells; ban = a.ban }

-- the fields keep a position, and the cells past the board are empty
pub record HoldsPosition (a : Inside) : Type 0 where
  pub position : IsPosition (position_of a)
  pub padded : drop (a.size * a.size) a.cells ≡ padding a.size

-- the fields that keep a position
abbrev pub kept_of : BoardState → Inside
kept_of pos = record { size = pos.size; cells = pos.cells ++ padding pos.size; ban = pos.ban }

-- the position determines the fields that keep it
pub kept_of-position_of : (a : Inside) → HoldsPosition a → kept_of (position_of a) ≡ a
kept_of-position_of a h =
    ap (λ (cells : List Cell). record { size = a.size; ban = a.ban; cells = cells })
    (ap (λ t. take (a.size * a.size) a.cells ++ t) (sym h.padded) ∙ take-append-drop (a.size * a.size) a.cells)

-- the board holds the position pos, and its cells past the position are empty
pub record Holds (pos : BoardState) (board : Flat) : Type 0 where
  pub position : IsPosition pos
  pub size : board.size ≡ pos.size
  pub cells : take (board.size * board.size) board.cells ≡ pos.cells
  pub whole : (length board.cells ≡ largest_points) × (board.size ≤ largest_size)
  pub padded : drop (board.size * board.size) board.cells ≡ padding board.size

-- the position on the board, with the given ban
abbrev pub position_on : Flat → Option (ℕ × Colour) → BoardState
position_on board ban = record { size = board.size; cells = take (board.size * board.size) board.cells; ban = ban }

-- the board holds a position with the given ban, and the cells past it are empty
pub record HoldsWith (board : Flat) (ban : Option (ℕ × Colour)) : Type 0 where
  pub position : IsPosition (position_on board ban)
  pub padded : drop (board.size * board.size) board.cells ≡ padding board.size
