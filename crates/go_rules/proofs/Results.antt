-- What a play gives in each case, and that it gives a position.
use Rattle.std.proofs.Common.{◌≡◌, ◌≢◌, ℕ, ◌*◌, ◌<◌, true, false, Option, Some, None, List, Ok, Err, IfSome}
use Rattle.std.proofs.Common.{refl, arith}
use Rattle.std.proofs.Math.ListN.{set}
use Rattle.std.proofs.lemmas.Bool.{ne_eqb}
use Rattle.std.specs.Option.{option_map}
use Rattle.go_rules.specs.declared.Cell.{Cell}
use Rattle.go_rules.specs.declared.Cell.TheVariants.{Empty}
use Rattle.go_rules.specs.declared.Colour.{Colour}
use Rattle.go_rules.specs.declared.Illegal.TheVariants.{Occupied, Ko, Suicide}
use Rattle.go_rules.specs.Below.{first_below}
use Rattle.go_rules.specs.Strings.{cell_at, is_stone, liberties}
use Rattle.go_rules.specs.Position.{BoardState, IsPosition, other, stone_of, is_banned}
use Rattle.go_rules.specs.Play.{is_taken, cells_after, ban_after, play_free, play}
use Rattle.go_rules.proofs.Counts.{first_below_gives}
use Rattle.go_rules.proofs.Plays.{length_after, at_after, after_alive, empty_from}

-- the cells with the stone put
abbrev pub put_on : BoardState → Colour → ℕ → List Cell
put_on pos c p = set pos.cells p (stone_of c)

-- the cells after the play
abbrev pub after_on : BoardState → Colour → ℕ → List Cell
after_on pos c p = cells_after pos.size (put_on pos c p) c

-- the position after the play
abbrev pub result_of : BoardState → Colour → ℕ → BoardState
result_of pos c p = record {
  size = pos.size;
  cells = after_on pos c p;
  ban = ban_after pos.size (put_on pos c p) (after_on pos c p) c p;
}

-- if a stone stands, the play with the ban dropped is Occupied
pub free_occupied : (pos : BoardState) (c : Colour) (p : ℕ) → is_stone (cell_at pos.cells p) ≡ true
    → Err Occupied ≡ play_free pos c p
unfolding play_free
free_occupied pos c p t = rw t refl

-- if the stone's string has no liberty afterwards, it is Suicide
pub free_suicide : (pos : BoardState) (c : Colour) (p : ℕ) → is_stone (cell_at pos.cells p) ≡ false
    → liberties pos.size (after_on pos c p) p ≡ 0 → Err Suicide ≡ play_free pos c p
unfolding play_free
free_suicide pos c p f z = rw (f, z) refl

-- else it is done
pub free_done : (pos : BoardState) (c : Colour) (p : ℕ) → is_stone (cell_at pos.cells p) ≡ false
    → liberties pos.size (after_on pos c p) p ≢ 0 → Ok (result_of pos c p) ≡ play_free pos c p
unfolding play_free
free_done pos c p f nz = rw (f, ne_eqb (liberties pos.size (after_on pos c p) p) 0 nz) refl

-- if a stone stands, the play is Occupied
pub play_occupied : (pos : BoardState) (c : Colour) (p : ℕ) → is_stone (cell_at pos.cells p) ≡ true
    → Err Occupied ≡ play pos c p
unfolding play
play_occupied pos c p t = rw t refl

-- if the ban is on the play, it is Ko
pub play_ko : (pos : BoardState) (c : Colour) (p : ℕ) → is_stone (cell_at pos.cells p) ≡ false
    → is_banned pos.ban c p ≡ true → Err Ko ≡ play pos c p
unfolding play
play_ko pos c p f b = rw (f, b) refl

-- else it is that with the ban dropped
pub play_else : (pos : BoardState) (c : Colour) (p : ℕ) → is_stone (cell_at pos.cells p) ≡ false
    → is_banned pos.ban c p ≡ false → play_free pos c p ≡ play pos c p
unfolding play
play_else pos c p f b = rw (f, b) refl

-- the ban's point is one that was taken
ban_of_first : (s : ℕ) (put after : List Cell) (c : Colour) (o : Option ℕ) → after ≡ cells_after s put c
    → first_below (s * s) (is_taken s put c) ≡ o
    → IfSome (option_map {T = ℕ} {U = ℕ × Colour} (λ q. (q, other c)) o) (λ b. (b.0 < s * s)
    × (cell_at after b.0 ≡ Empty))
ban_of_first s put after c None is e = tt
ban_of_first s put after c (Some q) is e = grind (arith, first_below_gives, at_after)

-- the ban's point is on the board and empty
pub ban_good : (s : ℕ) (put after : List Cell) (c : Colour) (p : ℕ) → after ≡ cells_after s put c
    → IfSome (ban_after s put after c p) (λ b. (b.0 < s * s) × (cell_at after b.0 ≡ Empty))
unfolding ban_after
ban_good s put after c p is = grind (arith, ban_of_first)

-- the position after a play that is done is a position
pub result_good : (pos : BoardState) (c : Colour) (p : ℕ) → IsPosition pos → p < pos.size * pos.size
    → is_stone (cell_at pos.cells p) ≡ false → liberties pos.size (after_on pos c p) p ≢ 0
    → IsPosition (result_of pos c p)
result_good pos c p good on f nz = grind (arith, length_after, after_alive, empty_from, ban_good)
