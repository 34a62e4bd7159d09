-- Plays and passes as functions that compute: a stone is put, what it captures is taken, suicide is judged, a ban is
-- left.
use Rattle.std.specs.Prelude.{ℕ, ◌*◌, ◌==◌, ◌&&◌, Bool, List, map, slice_set, Option, None, Result, Ok, Err, is_ok}
use Rattle.std.specs.Prelude.{if◌then◌else◌, option_map}
use Rattle.std.specs.List.{range_with_len}
use Rattle.std.specs.Ordering.{nat_cmp}
use Rattle.std.specs.FinSet as set
use Rattle.go_rules.specs.declared.Cell.{Cell}
use Rattle.go_rules.specs.declared.Cell.TheVariants.{Empty}
use Rattle.go_rules.specs.declared.Colour.{Colour}
use Rattle.go_rules.specs.declared.Illegal.{Illegal}
use Rattle.go_rules.specs.declared.Illegal.TheVariants.{Occupied, Ko, Suicide}
use Rattle.go_rules.specs.Below.{count_below, first_below, set_below}
use Rattle.go_rules.specs.Position.{BoardState, other, stone_of, is_banned}
use Rattle.go_rules.specs.Strings.{cell_at, is_stone, same_cell, is_in_string, liberties}

-- after c put a stone, which gave the cells put, q holds an enemy stone whose string has no liberty
unfoldable pub is_taken : ℕ → List Cell → Colour → ℕ → Bool
is_taken s put c q = same_cell (cell_at put q) (stone_of (other c)) && (liberties s put q == 0)

-- the points whose stones are taken after c put a stone
unfoldable pub taken_at : ℕ → List Cell → Colour → set.FinSet nat_cmp
taken_at s put c = set_below (s * s) (is_taken s put c)

-- the cells after the captures of c: the cells put with the taken stones removed
unfoldable pub cells_after : ℕ → List Cell → Colour → List Cell
cells_after s put c = map (λ q. if is_taken s put c q then Empty else cell_at put q) (range_with_len 0 (s * s))

-- the ban that c leaves at p: if one stone was taken, and the stone played is a string of one stone with one liberty,
-- the other colour may not play where the taken stone stood; else there is no ban
unfoldable pub ban_after : ℕ → List Cell → List Cell → Colour → ℕ → Option (ℕ × Colour)
ban_after s put after c p =
    if (count_below (s * s) (is_taken s put c) == 1) && (count_below (s * s) (is_in_string s after p) == 1)
    && (liberties s after p == 1)
    then option_map (λ q. (q, other c)) (first_below (s * s) (is_taken s put c))
    else None

-- c plays at p with no regard to the ban: the new position, or Occupied, or Suicide
unfoldable pub play_free : BoardState → Colour → ℕ → Result BoardState Illegal
play_free pos c p =
    let put = slice_set pos.cells p (stone_of c) in
    let after = cells_after pos.size put c in
    if is_stone (cell_at pos.cells p) then Err Occupied
    else if liberties pos.size after p == 0 then Err Suicide
    else Ok (record { size = pos.size; cells = after; ban = ban_after pos.size put after c p })

-- c plays at p: the new position, or the first of Occupied, Ko and Suicide that forbids it
unfoldable pub play : BoardState → Colour → ℕ → Result BoardState Illegal
play pos c p =
    if is_stone (cell_at pos.cells p) then Err Occupied
    else if is_banned pos.ban c p then Err Ko
    else play_free pos c p

-- the rules allow c to play at p
abbrev pub is_legal : BoardState → Colour → ℕ → Bool
is_legal pos c p = is_ok (play pos c p)

-- the points where the rules allow c to play
unfoldable pub legal_points : BoardState → Colour → set.FinSet nat_cmp
legal_points pos c = set_below (pos.size * pos.size) (is_legal pos c)

-- the position after a pass: the same, with its ban dropped
abbrev pub pass : BoardState → BoardState
pass pos = record { size = pos.size; cells = pos.cells; ban = None }

-- the outcome of a play on a board of size s: the position with the cells and the ban that it left, or the refusal
abbrev pub played_on : ℕ → List Cell → Result (Option (ℕ × Colour)) Illegal → Result BoardState Illegal
played_on s cells (Ok ban) = Ok (record { size = s; cells = cells; ban = ban })
played_on s cells (Err e) = Err e
