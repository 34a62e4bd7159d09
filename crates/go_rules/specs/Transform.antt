-- The eight transformations, which turn and mirror a diagram, and the offsets that they move.
use Rattle.std.specs.Prelude.{◌≡◌, ℕ, ◌-◌, ◌==◌, ◌⊎◌, ℤ, pos, neg_ℤ, ◌+ℤ◌, ◌≤ℤ◌, if◌then◌else◌}
use Rattle.go_rules.specs.Board.{largest_size}

-- an offset: how many rows down and how many columns to the right; a negative number leads the other way
abbrev pub Offset : Type 0
Offset = ℤ × ℤ

-- the greatest number of rows or columns between two points of the largest board
abbrev pub largest_offset : ℕ
largest_offset = largest_size - 1

-- each part of the offset is small enough to lie between two points of the largest board
pub record IsNear (d : Offset) : Type 0 where
  pub row_low : neg_ℤ (pos largest_offset) ≤ℤ d.0
  pub row_high : d.0 ≤ℤ pos largest_offset
  pub column_low : neg_ℤ (pos largest_offset) ≤ℤ d.1
  pub column_high : d.1 ≤ℤ pos largest_offset

-- how many transformations there are; they are numbered from 0
abbrev pub transformations : ℕ
transformations = 8

-- where transformation t moves an offset: 0 to 3 turn it by quarters, 4 to 7 mirror it
abbrev pub transformed : ℕ → Offset → Offset
transformed t d =
    if t == 0 then (d.0, d.1)
    else if t == 1 then (d.1, neg_ℤ d.0)
    else if t == 2 then (neg_ℤ d.0, neg_ℤ d.1)
    else if t == 3 then (neg_ℤ d.1, d.0)
    else if t == 4 then (d.0, neg_ℤ d.1)
    else if t == 5 then (neg_ℤ d.1, neg_ℤ d.0)
    else if t == 6 then (neg_ℤ d.0, d.1)
    else (d.1, d.0)

-- the numbers a and b differ by one
abbrev pub AreNextTo : ℤ → ℤ → Type 0
AreNextTo a b = (a ≡ b +ℤ pos 1) ⊎ (b ≡ a +ℤ pos 1)

-- the offsets differ by one in the row or in the column and are the same in the other, as the places of neighbours are
abbrev pub AreOneStepApart : Offset → Offset → Type 0
AreOneStepApart d e = ((d.0 ≡ e.0) × AreNextTo d.1 e.1) ⊎ ((d.1 ≡ e.1) × AreNextTo d.0 e.0)
