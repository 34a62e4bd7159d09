-- What is drawn fits at a place exactly if it admits what is seen there.
use Rattle.std.proofs.Common.{◌≡◌, ℕ, false, not, Option, Some, None, refl, sym, ap, arith}
use Rattle.go_rules.specs.declared.Cell.{Cell}
use Rattle.go_rules.specs.declared.Cell.TheVariants.{Empty as empty_cell, Black as black_stone, White as white_stone}
use Rattle.go_rules.specs.declared.Colour.{Colour}
use Rattle.go_rules.specs.declared.Colour.TheVariants.{Black as black, White as white}
use Rattle.go_rules.specs.Position.{BoardState, other, stone_of}
use Rattle.go_rules.specs.Strings.{cell_at, same_cell}
use Rattle.pat_types.specs.declared.letter.Letter.{Letter}
use Rattle.pat_types.specs.declared.letter.Letter.TheVariants.{Friend, Enemy, Empty, FriendOrEmpty, EnemyOrEmpty, Any}
use Rattle.pat_types.specs.declared.letter.Letter.TheVariants.{Star}
use Rattle.pat_types.specs.declared.cell.Drawn.{Drawn}
use Rattle.pat_types.specs.declared.cell.Drawn.TheVariants.{Nothing, OffBoard, Shows}
use Rattle.pat_types.specs.Letters.{admits}
use Rattle.match_rules.specs.Fits.{drawn_fits}
use Rattle.dfa_core.specs.declared.automaton.Seen.TheVariants.{Off}
use Rattle.dfa_core.specs.Fits.{letter_admits, drawn_admits, is_friend, is_enemy, is_empty, is_off}
use Rattle.dfa_match.specs.SeenLetters.{seen_of, seen_at_place}

-- what a friend sees of a cell: his stones and his enemy's where they stand, an empty point where nothing stands, and
-- that it is on the board
record IsSeen (cell : Cell) (friend : Colour) : Type 0 where
  friends : same_cell cell (stone_of friend) ≡ is_friend (seen_of friend cell)
  enemies : same_cell cell (stone_of (other friend)) ≡ is_enemy (seen_of friend cell)
  empty : same_cell cell empty_cell ≡ is_empty (seen_of friend cell)
  on_board : is_off (seen_of friend cell) ≡ false

-- each cell is seen so
is_seen : (cell : Cell) (friend : Colour) → IsSeen cell friend
is_seen empty_cell black = record { friends = refl; enemies = refl; empty = refl; on_board = refl }
is_seen empty_cell white = record { friends = refl; enemies = refl; empty = refl; on_board = refl }
is_seen black_stone black = record { friends = refl; enemies = refl; empty = refl; on_board = refl }
is_seen black_stone white = record { friends = refl; enemies = refl; empty = refl; on_board = refl }
is_seen white_stone black = record { friends = refl; enemies = refl; empty = refl; on_board = refl }
is_seen white_stone white = record { friends = refl; enemies = refl; empty = refl; on_board = refl }

-- a letter admits a cell where it admits what is seen there
admits_seen : (l : Letter) (cell : Cell) (friend : Colour)
    → admits l cell friend ≡ letter_admits l (seen_of friend cell)
admits_seen Friend cell friend = (is_seen cell friend).friends
admits_seen Enemy cell friend = (is_seen cell friend).enemies
admits_seen Empty cell friend = (is_seen cell friend).empty
admits_seen FriendOrEmpty cell friend = grind (arith, is_seen)
admits_seen EnemyOrEmpty cell friend = grind (arith, is_seen)
admits_seen Any cell friend = sym (ap not (is_seen cell friend).on_board)
admits_seen Star cell friend = (is_seen cell friend).empty

-- no letter admits what is off the board
off_refused : (l : Letter) → letter_admits l Off ≡ false
off_refused Friend = refl
off_refused Enemy = refl
off_refused Empty = refl
off_refused FriendOrEmpty = refl
off_refused EnemyOrEmpty = refl
off_refused Any = refl
off_refused Star = refl

-- what is drawn fits at a place exactly if it admits what is seen there
pub fits_seen : (d : Drawn) (board : BoardState) (friend : Colour) (o : Option ℕ)
    → drawn_fits d board friend o ≡ drawn_admits d (seen_at_place board friend o)
fits_seen Nothing board friend o = refl
fits_seen OffBoard board friend None = refl
fits_seen OffBoard board friend (Some q) = sym (is_seen (cell_at board.cells q) friend).on_board
fits_seen (Shows l) board friend None = sym (off_refused l)
fits_seen (Shows l) board friend (Some q) = admits_seen l (cell_at board.cells q) friend
