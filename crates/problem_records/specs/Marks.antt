-- The question of a record without a line. It is about the only marked stone; the player to move attacks or defends it.
use Rattle.std.specs.Prelude.{ℕ, ◌*◌, Bool, ◌&&◌, ◌||◌, List, [], ◌∷◌, Option, Some, None, Result, Ok, Err}
use Rattle.std.specs.Prelude.{if◌then◌else◌, codes}
use Rattle.std.specs.List.{filter, list_any, range_with_len}
use Rattle.std.specs.Str.{bytes_eq}
use Rattle.go_rules.specs.declared.Cell.{Cell}
use Rattle.go_rules.specs.declared.Colour.{Colour}
use Rattle.go_rules.specs.declared.Cell.TheVariants as cell
use Rattle.go_rules.specs.declared.Colour.TheVariants.{Black, White}
use Rattle.go_rules.specs.Position.{BoardState}
use Rattle.go_rules.specs.Strings.{cell_at, is_stone}
use Rattle.sgf_rules.specs.Points.{area_of}
use Rattle.sgf_rules.specs.Game.{is_in_some_area}
use Rattle.read_rules.specs.declared.question.Kind.{Kind}
use Rattle.read_rules.specs.declared.question.Kind.TheVariants.{Attack, Defend}
use Rattle.problem_records.specs.Nodes.{Named, has_name}
use Rattle.problem_records.specs.declared.lack.Lack.{Lack}
use Rattle.problem_records.specs.declared.lack.Lack.TheVariants as lack

-- a property of this name marks points: it is TR, SQ, CR or MA
abbrev pub is_mark : List ℕ → Bool
is_mark name =
    bytes_eq name (codes "TR") || (bytes_eq name (codes "SQ") || (bytes_eq name (codes "CR")
    || bytes_eq name (codes "MA")))

-- the value marks the point, on a board of size s
abbrev pub marks : ℕ → ℕ → Named → Bool
marks s p v = is_mark v.0 && is_in_some_area s (area_of s v.1) p

-- one of the values marks the point
abbrev pub is_marked : ℕ → ℕ → List Named → Bool
is_marked s p vs = list_any (marks s p) vs

-- a stone stands at the point
abbrev pub is_stone_at : List Cell → ℕ → Bool
is_stone_at cells p = is_stone (cell_at cells p)

-- the marked stones in reading order
abbrev pub marked_stones : BoardState → List Named → List ℕ
marked_stones pos vs =
    filter (λ p. is_stone_at pos.cells p && is_marked pos.size p vs) (range_with_len 0 (pos.size * pos.size))

-- the colour that a value of PL says
abbrev pub colour_said : List ℕ → Option Colour
colour_said value =
    if bytes_eq value (codes "B") || (bytes_eq value (codes "b") || (bytes_eq value (codes "black")
    || bytes_eq value (codes "Black")))
    then Some Black
    else if bytes_eq value (codes "W") || (bytes_eq value (codes "w") || (bytes_eq value (codes "white")
    || bytes_eq value (codes "White")))
    then Some White
    else None

-- the player to move: the colour that the first value of PL says
abbrev pub player_of : List Named → Option Colour
player_of [] = None
player_of (v ∷ vs) = if has_name (codes "PL") v then colour_said v.1 else player_of vs

-- the player to move defends a stone of this player's colour, and attacks any other stone
abbrev pub kind_for : Colour → Cell → Kind
kind_for Black cell.Black = Defend
kind_for White cell.White = Defend
kind_for _ _ = Attack

-- the question about the only marked stone, or what is lacking: the single stone comes first, then the player
abbrev pub asked_by_marks : List Cell → List ℕ → Option Colour → Result (Kind × ℕ) Lack
asked_by_marks cells [] player = Err lack.NoMark
asked_by_marks cells (p ∷ []) None = Err lack.NoPlayer
asked_by_marks cells (p ∷ []) (Some c) = Ok (kind_for c (cell_at cells p), p)
asked_by_marks cells (p ∷ (q ∷ ps)) player = Err lack.ManyMarks
