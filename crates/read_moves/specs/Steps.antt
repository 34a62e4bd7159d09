-- What the steps of the search for candidates find.
use Rattle.std.specs.Prelude.{◌≡◌, ◌≢◌, ℕ, ◌*◌, ◌<◌, true, List}
use Rattle.go_rules.specs.declared.Cell.{Cell}
use Rattle.go_rules.specs.declared.Cell.TheVariants.{Empty}
use Rattle.go_rules.specs.declared.Colour.{Colour}
use Rattle.go_rules.specs.Board.{are_neighbours}
use Rattle.go_rules.specs.Strings.{cell_at, IsLiberty}
use Rattle.go_rules.specs.Position.{BoardState, IsPosition, other, stone_of}
pub use Rattle.read_rules.specs.Candidates.{is_left}

-- the string of q has a liberty that is not l
pub record HasOtherLiberty (s : ℕ) (cells : List Cell) (q l : ℕ) : Type 0 where
  pub point : ℕ
  pub liberty : IsLiberty s cells q point
  pub other : point ≢ l

-- if q is an enemy stone of c, its string has a liberty that is not l
abbrev pub LivesWithout : ℕ → List Cell → Colour → ℕ → ℕ → Type 0
LivesWithout s cells c l q = cell_at cells q ≡ stone_of (other c) → HasOtherLiberty s cells q l

-- each enemy string of c next to l has a liberty that is not l
abbrev pub AllLive : ℕ → List Cell → Colour → ℕ → Type 0
AllLive s cells c l = (q : ℕ) → q < s * s → are_neighbours s l q ≡ true → LivesWithout s cells c l q

-- l is an empty point of a position, and a stone of c at l takes nothing: each enemy string next to l has another
-- liberty
pub record IsQuiet (here : BoardState) (c : Colour) (l : ℕ) : Type 0 where
  pub sound : IsPosition here
  pub is_empty : cell_at here.cells l ≡ Empty
  pub live : AllLive here.size here.cells c l
