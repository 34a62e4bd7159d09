-- What values say: points, rectangles, moves and sizes.
use Rattle.std.specs.Prelude.{ℕ, ◌+◌, ◌-◌, ◌*◌, Bool, ◌&&◌, ◌==◌, nat_le, nat_lt, List, [], ◌∷◌, Option, Some, None}
use Rattle.std.specs.Prelude.{if◌then◌else◌}
use Rattle.std.specs.List.{list_all}
use Rattle.std.specs.Option.{option_map, option_and_then}
use Rattle.go_rules.specs.Board.{Place, point_at, row_of, column_of, smallest_size, largest_size}
use Rattle.sgf_rules.specs.Bytes.{digit_zero, digit_nine, colon, small_a, small_t}
use Rattle.sgf_rules.specs.declared.area.Area.{Area}

-- the row or column that a letter names, counted from `a`, if a board of size s has it
abbrev pub line_of : ℕ → ℕ → Option ℕ
line_of s b = if nat_le small_a b && nat_lt b (small_a + s) then Some (b - small_a) else None

-- the place of two letters, first the column and then the row, if the place lies on a board of size s
abbrev pub place_of_letters : ℕ → ℕ → ℕ → Option Place
place_of_letters s c r =
    option_and_then (λ column. option_map (λ row. (row, column)) (line_of s r)) (line_of s c)

-- the rectangle with these upper left and lower right corners, unless they are out of order
abbrev pub area_between : Place → Place → Option Area
area_between a b =
    if nat_le a.0 b.0 && nat_le a.1 b.1
    then Some (record { top = a.0; left = a.1; bottom = b.0; right = b.1 })
    else None

-- the rectangle with these corners, if both are on the board and in order
abbrev pub area_of_corners : Option Place → Option Place → Option Area
area_of_corners first last = option_and_then (λ a. option_and_then (area_between a) last) first

-- the rectangle that a value of AB, AW or AE says on a board of size s: a point, or two with `:` between
abbrev pub area_of : ℕ → List ℕ → Option Area
area_of s (c ∷ (r ∷ [])) = area_of_corners (place_of_letters s c r) (place_of_letters s c r)
area_of s (c ∷ (r ∷ (b ∷ (d ∷ (q ∷ []))))) =
    if b == colon then area_of_corners (place_of_letters s c r) (place_of_letters s d q) else None
area_of s _ = None

-- the point is in the rectangle, on a board of size s
abbrev pub is_in_area : ℕ → Area → ℕ → Bool
is_in_area s a p =
    nat_le a.top (row_of s p) && nat_le (row_of s p) a.bottom
    && nat_le a.left (column_of s p) && nat_le (column_of s p) a.right

-- the greatest size on which `tt` is a pass
abbrev pub largest_size_of_tt : ℕ
largest_size_of_tt = 19

-- the two letters are `tt`, and s is a size on which `tt` is a pass
abbrev pub is_written_pass : ℕ → ℕ → ℕ → Bool
is_written_pass s c r = nat_le s largest_size_of_tt && c == small_t && r == small_t

-- the point that a value of B or W plays on a board of size s, or Some None for a pass; None if the value says neither
abbrev pub move_of : ℕ → List ℕ → Option (Option ℕ)
move_of s [] = Some None
move_of s (c ∷ (r ∷ [])) =
    if is_written_pass s c r then Some None
    else option_map (λ p. Some p) (option_map (point_at s) (place_of_letters s c r))
move_of s _ = None

-- the byte is a digit
abbrev pub is_digit : ℕ → Bool
is_digit b = nat_le digit_zero b && nat_le b digit_nine

-- the number that is written by n and then these digits
abbrev pub value_after : ℕ → List ℕ → ℕ
value_after n [] = n
value_after n (d ∷ ds) = value_after (n * 10 + (d - digit_zero)) ds

-- the size with this number, if a board may have it
abbrev pub size_of_number : ℕ → Option ℕ
size_of_number n = if nat_le smallest_size n && nat_le n largest_size then Some n else None

-- the size that a value of SZ says: digits that write a size of a board; no digits count as 0, which is no size
unfoldable pub size_of : List ℕ → Option ℕ
size_of digits = if list_all is_digit digits then size_of_number (value_after 0 digits) else None
