-- Games: moves played one after another from a first position.
use Rattle.std.specs.Prelude.{◌≡◌, ℕ, ◌+◌, ◌*◌, ◌<◌, ◌&&◌, not, List, [], ◌∷◌, slice_set, replicate, Option, Some, None}
use Rattle.std.specs.Prelude.{IfSome, Result, Ok, Err, if◌then◌else◌}
use Rattle.go_rules.specs.declared.Cell.TheVariants.{Empty}
use Rattle.go_rules.specs.declared.Colour.{Colour}
use Rattle.go_rules.specs.declared.Illegal.{Illegal}
use Rattle.go_rules.specs.declared.Move.{Move}
use Rattle.go_rules.specs.Below.{count_below}
use Rattle.go_rules.specs.declared.Cell.{Cell}
use Rattle.go_rules.specs.Strings.{cell_at, is_stone}
use Rattle.go_rules.specs.Position.{BoardState, stone_of, same_colour}
use Rattle.go_rules.specs.Play.{play, pass, is_taken}

-- the empty board of size s, without a ban
abbrev pub empty_board : ℕ → BoardState
empty_board s = record { size = s; cells = replicate (s * s) Empty; ban = None }

-- the position after c plays at the point, or what forbids the play; if there is no point, the position after a pass
abbrev pub moved_to : BoardState → Colour → Option ℕ → Result BoardState Illegal
moved_to pos c None = Ok (pass pos)
moved_to pos c (Some p) = play pos c p

-- the position that a move leads to, or what forbids it; a pass is never forbidden
abbrev pub moved : BoardState → Move → Result BoardState Illegal
moved pos m = moved_to pos m.colour m.at

-- the position that a move led to, or pos if the move was refused
abbrev pub led_to : BoardState → Result BoardState Illegal → BoardState
led_to pos (Ok next) = next
led_to pos (Err e) = pos

-- the position after the moves, the first of the list first; a move that the rules forbid changes nothing
unfoldable pub replay_from : BoardState → List Move → BoardState
replay_from pos [] = pos
replay_from pos (m ∷ ms) = replay_from (led_to pos (moved pos m)) ms

-- the position after the moves from the empty board of size s
abbrev pub replay : ℕ → List Move → BoardState
replay s moves = replay_from (empty_board s) moves

-- how many stones c takes by a play at the point; none by a pass
abbrev pub taken_by : BoardState → Colour → Option ℕ → ℕ
taken_by pos c None = 0
taken_by pos c (Some p) = count_below (pos.size * pos.size) (is_taken pos.size (slice_set pos.cells p (stone_of c)) c)

-- how many stones the moves of colour c took, played from the position pos
unfoldable pub captures_from : BoardState → Colour → List Move → ℕ
captures_from pos c [] = 0
captures_from pos c (m ∷ ms) =
    (if same_colour m.colour c then taken_by pos m.colour m.at else 0) + captures_from (led_to pos (moved pos m)) c ms

-- how many stones the moves of colour c took, played from the empty board of size s
abbrev pub captures : ℕ → Colour → List Move → ℕ
captures s c moves = captures_from (empty_board s) c moves

-- the move's point, if it has one, is on the board of the position, and the rules allow the move
pub record IsLegalMove (pos : BoardState) (m : Move) : Type 0 where
  pub on_board : IfSome m.at (λ p. p < pos.size * pos.size)
  pub allowed : (next : BoardState) × (moved pos m ≡ Ok next)

-- each move of the list is legal in the position after the moves before it
abbrev pub IsLegalGame : BoardState → List Move → Type 0
IsLegalGame pos [] = Unit {0}
IsLegalGame pos (m ∷ ms) = IsLegalMove pos m × IsLegalGame (led_to pos (moved pos m)) ms

-- how many points of a board of size s hold a stone in the cells before and none in the cells after
abbrev pub stones_gone : ℕ → List Cell → List Cell → ℕ
stones_gone s before after = count_below (s * s) (λ q. is_stone (cell_at before q) && not (is_stone (cell_at after q)))
