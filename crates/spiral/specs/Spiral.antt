-- The spiral: rings of offsets around (0, 0), in the order in which a diagram and a board are read.
use Rattle.std.specs.Prelude.{ℕ, zero, suc, ◌+◌, ◌-◌, ◌*◌, ◌/◌, ◌%◌, ◌==◌, ℤ, pos, negsuc, ◌+ℤ◌, ◌-ℤ◌, neg_ℤ, Option}
use Rattle.std.specs.Prelude.{Some, None, nat_lt, nat_le, if◌then◌else◌}
use Rattle.go_rules.specs.Transform.{Offset, transformed, largest_offset}

-- how many rows and columns the square of all offsets has
abbrev pub square_side : ℕ
square_side = 2 * largest_offset + 1

-- how many offsets there are
abbrev pub offset_count : ℕ
offset_count = square_side * square_side

-- the index of the first offset of ring k: 0 for ring 0, and else (2k - 1) squared
abbrev pub ring_start : ℕ → ℕ
ring_start zero = 0
ring_start (suc k) = (2 * k + 1) * (2 * k + 1)

-- the offset at place j of ring k: from (-k, -k) right to (-k, k), down to (k, k), left to (k, -k), and up to (-k + 1,
-- -k)
abbrev pub ring_place : ℕ → ℕ → Offset
ring_place k j =
    if nat_lt j (2 * k) then (neg_ℤ (pos k), pos j -ℤ pos k)
    else if nat_lt j (4 * k) then (pos j -ℤ pos (3 * k), pos k)
    else if nat_lt j (6 * k) then (pos k, pos (5 * k) -ℤ pos j)
    else (pos (7 * k) -ℤ pos j, neg_ℤ (pos k))

-- the greatest ring, of the rings up to k, that begins at or before the index i
abbrev pub ring_up_to : ℕ → ℕ → ℕ
ring_up_to zero i = 0
ring_up_to (suc k) i = if nat_le (ring_start (suc k)) i then suc k else ring_up_to k i

-- the offset with the index i, which is below offset_count
unfoldable pub offset_at : ℕ → Offset
offset_at i = ring_place (ring_up_to largest_offset i) (i - ring_start (ring_up_to largest_offset i))

-- the number as a row or a column of a board of size s; None if it is off the board
abbrev pub strip_of : ℕ → ℤ → Option ℕ
strip_of s (pos n) = if nat_lt n s then Some n else None
strip_of s (negsuc n) = None

-- the point in a row and a column of a board of size s; None if one of them is off the board
abbrev pub point_of : ℕ → Option ℕ → Option ℕ → Option ℕ
point_of s None column = None
point_of s (Some row) None = None
point_of s (Some row) (Some column) = Some (row * s + column)

-- the point of a board of size s that the offset d, moved by t, leads to from the point m; None if it is off the board
unfoldable pub place_at : ℕ → ℕ → ℕ → Offset → Option ℕ
place_at s t m d = point_of s (strip_of s (pos (m / s) +ℤ (transformed t d).0))
    (strip_of s (pos (m % s) +ℤ (transformed t d).1))

-- the place in ring k of the offset a rows below and b columns right of the first offset of the ring
abbrev pub place_in : ℕ → ℕ → ℕ → ℕ
place_in k a b = if a == 0 then b else if b == 2 * k then 2 * k + a else if a == 2 * k then 6 * k - b else 8 * k - a
