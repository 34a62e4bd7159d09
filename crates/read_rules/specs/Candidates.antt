-- The moves that a reading tries: four sets of points, and in the wider tree the further candidates too, each once as a
-- test that computes and once in terms of strings and liberties. The law `candidates_are_by_strings` says that the two
-- are the same.
use Rattle.std.specs.Prelude.{◌≡◌, ℕ, ◌*◌, ◌<◌, ◌≤◌, ◌&&◌, ◌||◌, Bool, true, false, nat_lt, List, Result, Ok, Err}
use Rattle.std.specs.List.{range_with_len, filter}
use Rattle.go_rules.specs.declared.Cell.{Cell}
use Rattle.go_rules.specs.declared.Cell.TheVariants.{Empty, Black, White}
use Rattle.go_rules.specs.declared.Colour.{Colour}
use Rattle.go_rules.specs.declared.Colour.TheVariants.{Black as black, White as white}
use Rattle.go_rules.specs.declared.Illegal.{Illegal}
use Rattle.go_rules.specs.Board.{are_neighbours}
use Rattle.go_rules.specs.Below.{any_below}
use Rattle.go_rules.specs.Strings.{cell_at, same_cell, is_liberty, liberties, IsInString, IsLiberty}
use Rattle.go_rules.specs.BesideStrings.{is_enemy}
use Rattle.go_rules.specs.Neighbourhood.{neighbourhood_of}
use Rattle.go_rules.specs.Position.{BoardState}
use Rattle.go_rules.specs.Play.{play_free}
use Rattle.go_base.specs.Surroundings.{is_only_liberty, is_last_liberty_of_enemy}
use Rattle.go_base.specs.Views.{alone}
use Rattle.wider_rules.specs.Further.{is_further}
use Rattle.wider_rules.specs.FurtherInWords.{IsFurther}
use Rattle.read_rules.specs.declared.tree.Tree.TheVariants.{Wider}
use Rattle.read_rules.specs.declared.turn.Turn.{Turn}
use Rattle.read_rules.specs.Trees.{is_wider}

-- p is empty and next to a point of S
unfoldable pub is_empty_beside : ℕ → List Cell → (ℕ → Bool) → ℕ → Bool
is_empty_beside s cells S p =
    nat_lt p (s * s) && same_cell (cell_at cells p) Empty && any_below (s * s) (λ l. S l && are_neighbours s l p)

-- the colour that attacks the stone of this cell, which is the other colour; black if the cell is empty
abbrev pub attacker_of : Cell → Colour
attacker_of Empty = black
attacker_of Black = white
attacker_of White = black

-- the play at l was legal, and the string of its stone has one liberty, which is p
abbrev pub leaves_only : ℕ → ℕ → Result BoardState Illegal → Bool
leaves_only l p (Ok new) = is_only_liberty new.size new.cells l p
leaves_only l p (Err why) = false

-- p is empty, and the play of c at l, with the ban dropped, is legal and leaves the string of its stone one liberty,
-- which is p
abbrev pub is_left : BoardState → Colour → ℕ → ℕ → Bool
is_left pos c l p = same_cell (cell_at pos.cells p) Empty && leaves_only l p (play_free pos c l)

-- p is empty, and at some liberty l of the target the attacker's play, with the ban dropped, is legal and leaves the
-- string of its stone one liberty, which is p: an attacker who first plays at p does not put himself into atari when he
-- then fills l
unfoldable pub is_backfilling : BoardState → ℕ → ℕ → Bool
is_backfilling pos target p =
    same_cell (cell_at pos.cells p) Empty
    && any_below (pos.size * pos.size)
    (λ l. is_liberty pos.size pos.cells target l
    && leaves_only l p (play_free pos (attacker_of (cell_at pos.cells target)) l))

-- p is a candidate at the turn: it is a liberty of the target; or an empty neighbour of a liberty, if a wide ply is
-- left and the target has at most two liberties; or the last liberty of an enemy string next to the target; or a
-- backfilling move, if a wide ply is left; or, in the wider tree, a further candidate of the side to play
unfoldable pub is_candidate : Turn → BoardState → ℕ → Bool
is_candidate turn pos p =
    is_liberty pos.size pos.cells turn.target p
    || ((nat_lt 0 turn.wide && nat_lt (liberties pos.size pos.cells turn.target) 3)
    && is_empty_beside pos.size pos.cells (is_liberty pos.size pos.cells turn.target) p)
    || is_last_liberty_of_enemy pos.size pos.cells turn.target p
    || (nat_lt 0 turn.wide && is_backfilling pos turn.target p)
    || (is_wider turn.tree
    && is_further (nat_lt 0 turn.wide) turn.attacker_to_play pos.size pos.cells turn.target p)

-- the candidates at the turn in reading order
abbrev pub candidates_of : Turn → BoardState → List ℕ
candidates_of turn pos = filter (is_candidate turn pos) (range_with_len 0 (pos.size * pos.size))

-- the points that a search for the candidates of a target may ask for, in either tree: the neighbourhood taken four
-- times
abbrev pub near_candidates : ℕ → List Cell → ℕ → ℕ → Bool
near_candidates s cells target =
    neighbourhood_of s cells (neighbourhood_of s cells
    (neighbourhood_of s cells (neighbourhood_of s cells (alone target))))

-- The candidates in terms of strings and liberties.

-- p is an empty neighbour of the point l
pub record IsEmptyNeighbour (s : ℕ) (cells : List Cell) (l p : ℕ) : Type 0 where
  pub on_board : p < s * s
  pub is_empty : cell_at cells p ≡ Empty
  pub beside : are_neighbours s l p ≡ true

-- the string of q is an enemy string in atari next to the string of the target, and p is its last liberty
pub record IsTakenAt (s : ℕ) (cells : List Cell) (target q p : ℕ) : Type 0 where
  pub on_board : q < s * s
  pub enemy : is_enemy (cell_at cells target) (cell_at cells q) ≡ true
  pub beside : (x : ℕ) × IsInString s cells target x × (are_neighbours s x q ≡ true)
  pub in_atari : liberties s cells q ≡ 1
  pub last : IsLiberty s cells q p

-- l is a liberty of the target; the attacker's play at l, with the ban dropped, is legal and leaves the string of its
-- stone one liberty; p is this liberty, and p is empty before the play
pub record IsBackfilledAt (pos : BoardState) (target l p : ℕ) : Type 0 where
  pub liberty : IsLiberty pos.size pos.cells target l
  pub new : BoardState
  pub legal : play_free pos (attacker_of (cell_at pos.cells target)) l ≡ Ok new
  pub in_atari : liberties new.size new.cells l ≡ 1
  pub last : IsLiberty new.size new.cells l p
  pub was_empty : cell_at pos.cells p ≡ Empty

-- p is a candidate at the turn
pub data IsCandidate (turn : Turn) (pos : BoardState) (p : ℕ) : Type 0 where
  fills : IsLiberty pos.size pos.cells turn.target p → IsCandidate turn pos p
  looks_wide : 0 < turn.wide → liberties pos.size pos.cells turn.target ≤ 2 → (l : ℕ)
      → IsLiberty pos.size pos.cells turn.target l → IsEmptyNeighbour pos.size pos.cells l p
      → IsCandidate turn pos p
  takes : (q : ℕ) → IsTakenAt pos.size pos.cells turn.target q p → IsCandidate turn pos p
  backfills : 0 < turn.wide → (l : ℕ) → IsBackfilledAt pos turn.target l p → IsCandidate turn pos p
  goes_further : turn.tree ≡ Wider
      → IsFurther (nat_lt 0 turn.wide) turn.attacker_to_play pos.size pos.cells turn.target p → IsCandidate turn pos p
