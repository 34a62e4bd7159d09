-- A board that holds a position, and what a play on it gives.
use Rattle.std.proofs.Common.{◌≡◌, ℕ, ◌-◌, ◌*◌, arith, length-append, ◌≤◌, ◌<◌, Bool, not, Option, Result, Ok, take}
use Rattle.std.proofs.Common.{drop, length, refl, sym, subst, ◌∙◌, get_or-take}
use Rattle.std.proofs.lemmas.List.{take-append-drop, length-replicate}
use Rattle.go_rules.specs.Board.{largest_size, largest_points}
use denote.Enum.Bare.{sameb}
use Rattle.go_rules.specs.contracts.Cell.{the_type}
use Rattle.go_rules.specs.declared.Cell.TheVariants.{Empty}
use Rattle.go_rules.specs.declared.Colour.{Colour}
use Rattle.go_rules.specs.declared.Illegal.{Illegal}
use Rattle.go_rules.specs.Strings.{cell_at, is_stone}
use Rattle.go_rules.specs.Position.{BoardState, IsPosition, board_of}
use Rattle.go_rules.specs.Play.{played_on, play_free}
use Rattle.go_rules.proofs.Cells.{stone_test}
use Rattle.go_rules.proofs.PlayLaws.{free_keeps}
use Rattle.go_base.specs.declared.view.Flat.{Flat}
use Rattle.go_base.specs.declared.position.Position.TheInside.{Inside}
use Rattle.go_base.specs.Flats.{KeepsRest}
use Rattle.go_base.specs.Positions.{position_of, padding, HoldsPosition, Holds}

-- the cells fill their array
kept_length : (a : Inside) → HoldsPosition a → a.size ≤ largest_size → length a.cells ≡ largest_points
kept_length a k small =
    grind (
      arith,
      length-replicate (largest_points - a.size * a.size) Empty,
      take-append-drop (a.size * a.size) a.cells,
      length-append (take (a.size * a.size) a.cells) (drop (a.size * a.size) a.cells),
    )

-- the board that a position is kept as holds the position
pub holds_of : (a : Inside) (pos : BoardState) → position_of a ≡ pos → HoldsPosition a → a.size ≤ largest_size
    → Holds pos (record { size = a.size; cells = a.cells })
holds_of a pos e k small = grind (arith, kept_length)

-- a board that keeps the rest is as long as before
pub whole_after : (old new : Flat) → KeepsRest old new → (length old.cells ≡ largest_points) × (old.size ≤ largest_size)
    → (length new.cells ≡ largest_points) × (new.size ≤ largest_size)
whole_after old new k w = (k.length ∙ w.0, subst (λ n. n ≤ largest_size) (sym k.size) w.1)

-- the code's test for a stone is that of the definition
pub stone_is_test : (a : Inside) (p : ℕ) (r : Bool) → p < a.size * a.size
    → r ≡ not (sameb the_type (cell_at a.cells p) Empty) → r ≡ is_stone (cell_at (take (a.size * a.size) a.cells) p)
stone_is_test a p r on e = grind (arith, stone_test, get_or-take)

-- a play does not ask for the ban
free_board : (pos : BoardState) (c : Colour) (p : ℕ) → play_free (board_of pos.size pos.cells) c p ≡ play_free pos c p
unfolding play_free
free_board pos c p = refl

module _ {pos : BoardState} {old new : Flat} (c : Colour) (p : ℕ) (result : Result (Option (ℕ × Colour)) Illegal)
    (h : Holds pos old) (k : KeepsRest old new)
    (over : (x : BoardState) → (length new.cells ≡ largest_points) × (new.size ≤ largest_size)
    → IsPosition (board_of old.size (take (old.size * old.size) old.cells))
    → play_free (board_of old.size (take (old.size * old.size) old.cells)) c p
    ≡ played_on old.size (take (new.size * new.size) new.cells) result) where
  -- the play on the board is the play of the rules
  pub held_free : played_on old.size (take (new.size * new.size) new.cells) result ≡ play_free pos c p
  held_free = grind (arith, whole_after, free_board)

module _ {pos : BoardState} {old new : Flat} (c : Colour) (p : ℕ) (ban : Option (ℕ × Colour)) (h : Holds pos old)
    (k : KeepsRest old new)
    (is : played_on old.size (take (new.size * new.size) new.cells) (Ok ban) ≡ play_free pos c p) where
  -- a play that is done gives the position of the rules
  pub held_done : Ok (position_of (record { size = new.size; ban = ban; cells = new.cells })) ≡ play_free pos c p
  held_done = grind arith

  -- and what is kept of it is the position and the empty rest
  pub held_kept : p < pos.size * pos.size → HoldsPosition (record { size = new.size; ban = ban; cells = new.cells })
  held_kept on = record {
    position = free_keeps pos c p (position_of (record { size = new.size; ban = ban; cells = new.cells })) h.position on
        (sym held_done);
    padded = subst (λ n. drop (n * n) new.cells ≡ padding n) (sym k.size) (k.rest ∙ h.padded);
  }

-- the board as a position, where it holds one
pub held_position : {pos : BoardState} {board : Flat} → Holds pos board
    → IsPosition (board_of board.size (take (board.size * board.size) board.cells))
held_position {pos} {board} h = grind arith

-- a board whose cells came back holds the position still
pub holds_again : {pos : BoardState} {old new : Flat} → Holds pos old → KeepsRest old new
    → take (new.size * new.size) new.cells ≡ take (old.size * old.size) old.cells → Holds pos new
holds_again {pos} {old} {new} h k back = grind (arith, whole_after)
