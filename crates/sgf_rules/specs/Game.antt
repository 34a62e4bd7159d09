-- The position that a game record leads to, or its first fault.
use Rattle.std.specs.Prelude.{◌≡◌, ℕ, ◌*◌, Bool, true, false, List, [], ◌∷◌, ◌++◌, map, Option, Some, None, is_some}
use Rattle.std.specs.Prelude.{Result, Ok, Err, if◌then◌else◌}
use Rattle.std.specs.List.{list_all, list_any, range_with_len}
use Rattle.go_rules.specs.declared.Cell.{Cell}
use Rattle.go_rules.specs.declared.Colour.{Colour}
use Rattle.go_rules.specs.declared.Illegal.{Illegal}
use Rattle.go_rules.specs.Strings.{cell_at}
use Rattle.go_rules.specs.Position.{BoardState, board_of}
use Rattle.go_rules.specs.Replay.{empty_board, moved_to}
use Rattle.go_base.specs.Setups.{has_dead_string}
use Rattle.sgf_rules.specs.declared.area.Area.{Area}
use Rattle.sgf_rules.specs.declared.kind.FaultKind.{FaultKind}
use Rattle.sgf_rules.specs.declared.kind.FaultKind.TheVariants.{Grammar, BadSize, BadValue, NoLiberty, IllegalPlay}
use Rattle.sgf_rules.specs.declared.meaning.Meaning.TheVariants.{Size, Setup, Play}
use Rattle.sgf_rules.specs.Trees.{Node}
use Rattle.sgf_rules.specs.MainLine.{main_line}
use Rattle.sgf_rules.specs.Uses.{Use, uses_in}
use Rattle.sgf_rules.specs.Points.{area_of, is_in_area, move_of, size_of}

-- the size of a board without SZ
abbrev pub usual_size : ℕ
usual_size = 19

-- the size that the first SZ value among these says, and 19 if there is no SZ value; None if that value says no size
unfoldable pub size_among : List Use → Option ℕ
size_among [] = Some usual_size
size_among ((Size, v) ∷ us) = size_of v
size_among ((Setup cell, v) ∷ us) = size_among us
size_among ((Play c, v) ∷ us) = size_among us

-- the size of the board: the size that the first node says
abbrev pub size_of_nodes : List Node → Option ℕ
size_of_nodes [] = Some usual_size
size_of_nodes (n ∷ ns) = size_among (uses_in n)

-- the value can be read on a board of size s: a setup says a rectangle, a play says a move, and SZ may say anything
abbrev pub is_readable : ℕ → Use → Bool
is_readable s (Size, v) = true
is_readable s (Setup cell, v) = is_some (area_of s v)
is_readable s (Play c, v) = is_some (move_of s v)

-- the value sets points
abbrev pub is_setup : Use → Bool
is_setup (Size, v) = false
is_setup (Setup cell, v) = true
is_setup (Play c, v) = false

-- the point is in the rectangle, if there is one
abbrev pub is_in_some_area : ℕ → Option Area → ℕ → Bool
is_in_some_area s None p = false
is_in_some_area s (Some a) p = is_in_area s a p

-- the value sets the point p: the value is one of AB, AW or AE, and its rectangle has the point
abbrev pub sets : ℕ → ℕ → Use → Bool
sets s p (Size, v) = false
sets s p (Setup cell, v) = is_in_some_area s (area_of s v) p
sets s p (Play c, v) = false

-- the cells with the points of a rectangle set to a cell
unfoldable pub with_area : ℕ → List Cell → Cell → Area → List Cell
with_area s cells cell a =
    map (λ p. if is_in_area s a p then cell else cell_at cells p) (range_with_len 0 (s * s))

-- the cells with the points of the rectangle, if there is one, set to a cell
abbrev pub with_area_if : ℕ → List Cell → Cell → Option Area → List Cell
with_area_if s cells cell None = cells
with_area_if s cells cell (Some a) = with_area s cells cell a

-- the cells after one value
abbrev pub cells_after_use : ℕ → List Cell → Use → List Cell
cells_after_use s cells (Size, v) = cells
cells_after_use s cells (Setup cell, v) = with_area_if s cells cell (area_of s v)
cells_after_use s cells (Play c, v) = cells

-- the cells after each value in order
unfoldable pub cells_after_uses : ℕ → List Cell → List Use → List Cell
cells_after_uses s cells [] = cells
cells_after_uses s cells (u ∷ us) = cells_after_uses s (cells_after_use s cells u) us

-- the position with these cells and no ko ban, or the fault NoLiberty if one of its strings has no liberty
unfoldable pub position_with : ℕ → List Cell → Result BoardState FaultKind
position_with s cells = if has_dead_string s cells then Err NoLiberty else Ok (board_of s cells)

-- the position after the values of AB, AW and AE; the position stays as it is if there is none of them
abbrev pub after_setup : BoardState → List Use → Result BoardState FaultKind
after_setup pos uses =
    if list_any is_setup uses then position_with pos.size (cells_after_uses pos.size pos.cells uses) else Ok pos

-- the values set points, and after all of them some string has no liberty
pub record HasDeadSetup (pos : BoardState) (uses : List Use) : Type 0 where
  pub some_setup : list_any is_setup uses ≡ true
  pub dead : has_dead_string pos.size (cells_after_uses pos.size pos.cells uses) ≡ true

-- the position after a move, or the fault IllegalPlay if the rules refuse the move
abbrev pub or_illegal : Result BoardState Illegal → Result BoardState FaultKind
or_illegal (Ok next) = Ok next
or_illegal (Err e) = Err IllegalPlay

-- the position after a move, if a value says one
abbrev pub after_move : BoardState → Colour → Option (Option ℕ) → Result BoardState FaultKind
after_move pos c None = Ok pos
after_move pos c (Some at) = or_illegal (moved_to pos c at)

-- the position after the move that a value says
abbrev pub after_use : BoardState → Use → Result BoardState FaultKind
after_use pos (Size, v) = Ok pos
after_use pos (Setup cell, v) = Ok pos
after_use pos (Play c, v) = after_move pos c (move_of pos.size v)

-- what follows a step, if the step had no fault
abbrev pub and_then : Result BoardState FaultKind → (BoardState → Result BoardState FaultKind)
    → Result BoardState FaultKind
and_then (Ok next) f = f next
and_then (Err e) f = Err e

-- the position after the moves of each value in order
unfoldable pub after_uses : BoardState → List Use → Result BoardState FaultKind
after_uses pos [] = Ok pos
after_uses pos (u ∷ us) = and_then (after_use pos u) (λ next. after_uses next us)

-- One of the moves that these values say is refused: the values before it lead from pos to another position, on which
-- the rules refuse the move.
pub record HasRefusedPlay (pos : BoardState) (uses : List Use) : Type 0 where
  pub before : List Use
  pub after : List Use
  pub colour : Colour
  pub value : List ℕ
  pub place : uses ≡ before ++ (Play colour, value) ∷ after
  pub reached : BoardState
  pub led : after_uses pos before ≡ Ok reached
  pub at : Option ℕ
  pub says : move_of reached.size value ≡ Some at
  pub why : Illegal
  pub refused : moved_to reached colour at ≡ Err why

-- the position after a node: its setup, and then its moves
unfoldable pub after_node : BoardState → List Use → Result BoardState FaultKind
after_node pos uses =
    if list_all (is_readable pos.size) uses
    then and_then (after_setup pos uses) (λ next. after_uses next uses)
    else Err BadValue

-- the position after each node in order
unfoldable pub after_nodes : BoardState → List Node → Result BoardState FaultKind
after_nodes pos [] = Ok pos
after_nodes pos (n ∷ ns) = and_then (after_node pos (uses_in n)) (λ next. after_nodes next ns)

-- the position after nodes, played from the empty board of this size
abbrev pub game_on : Option ℕ → List Node → Result BoardState FaultKind
game_on None nodes = Err BadSize
game_on (Some s) nodes = after_nodes (empty_board s) nodes

-- the position after the nodes of a main line, if there is one
abbrev pub game_along : Option (List Node) → Result BoardState FaultKind
game_along None = Err Grammar
game_along (Some nodes) = game_on (size_of_nodes nodes) nodes

-- the position of a game record, or its first fault: the grammar first, then the size, then node by node
unfoldable pub game_of : List ℕ → Result BoardState FaultKind
game_of text = game_along (main_line text)
