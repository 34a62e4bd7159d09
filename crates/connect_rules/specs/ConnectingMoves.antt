-- The moves that a reading of a connection tries, once as tests that compute and once in terms of strings and
-- liberties. The law `connecting_moves_are_by_strings` says that both definitions have the same moves.
use Rattle.std.specs.Prelude.{◌≡◌, ℕ, ◌*◌, ◌&&◌, ◌||◌, Bool, true, List}
use Rattle.go_rules.specs.declared.Cell.{Cell}
use Rattle.go_rules.specs.Board.{are_neighbours}
use Rattle.go_rules.specs.Below.{any_below}
use Rattle.go_rules.specs.Strings.{is_liberty, IsLiberty}
use Rattle.go_rules.specs.Position.{BoardState}
use Rattle.go_base.specs.Surroundings.{is_only_liberty, is_last_liberty_of_enemy}
use Rattle.wider_rules.specs.FurtherInWords.{IsLastAt}
use Rattle.read_rules.specs.Candidates.{IsTakenAt}
use Rattle.connect_rules.specs.declared.link.Link.{Link}

-- p is a liberty of the string of a, and a neighbour of a liberty of the string of b
unfoldable pub is_facing : ℕ → List Cell → ℕ → ℕ → ℕ → Bool
is_facing s cells a b p =
    is_liberty s cells a p && any_below (s * s) (λ q. is_liberty s cells b q && are_neighbours s q p)

-- p is a liberty of the strings of a and b, or a liberty of one of them and a neighbour of a liberty of the other, or
-- the only liberty of one of them
unfoldable pub is_between : ℕ → List Cell → ℕ → ℕ → ℕ → Bool
is_between s cells a b p =
    (is_liberty s cells a p && is_liberty s cells b p)
    || (is_facing s cells a b p || is_facing s cells b a p)
    || (is_only_liberty s cells a p || is_only_liberty s cells b p)

-- p is the only liberty of an enemy string that is next to the string of a or to the string of b
unfoldable pub is_capture : ℕ → List Cell → ℕ → ℕ → ℕ → Bool
is_capture s cells a b p = is_last_liberty_of_enemy s cells a p || is_last_liberty_of_enemy s cells b p

-- p is a connecting move: it lies between the two strings, or it captures an enemy string next to one of them
abbrev pub is_connecting_move : Link → BoardState → ℕ → Bool
is_connecting_move link pos p =
    is_between pos.size pos.cells link.a link.b p || is_capture pos.size pos.cells link.a link.b p

-- p is a liberty of the string of a and a neighbour of a liberty of the string of b, which is q
pub record IsFacing (s : ℕ) (cells : List Cell) (a b q p : ℕ) : Type 0 where
  pub its : IsLiberty s cells a p
  pub others : IsLiberty s cells b q
  pub beside : are_neighbours s q p ≡ true

-- p is a connecting move for the strings of a and b
pub data IsConnectingMove (s : ℕ) (cells : List Cell) (a b p : ℕ) : Type 0 where
  shared : IsLiberty s cells a p → IsLiberty s cells b p → IsConnectingMove s cells a b p
  a_faces : (q : ℕ) → IsFacing s cells a b q p → IsConnectingMove s cells a b p
  b_faces : (q : ℕ) → IsFacing s cells b a q p → IsConnectingMove s cells a b p
  a_extends : IsLastAt s cells a p → IsConnectingMove s cells a b p
  b_extends : IsLastAt s cells b p → IsConnectingMove s cells a b p
  a_takes : (q : ℕ) → IsTakenAt s cells a q p → IsConnectingMove s cells a b p
  b_takes : (q : ℕ) → IsTakenAt s cells b q p → IsConnectingMove s cells a b p
