-- Where the points of a board stand, one after another.
use Rattle.std.proofs.Common.{◌≡◌, ℕ, zero, suc, ◌+◌, ◌*◌, ◌/◌, ◌%◌, ◌<◌, ◌≤◌, ap, arith}
use Rattle.std.proofs.lemmas.Nat.{div-mul-add, mod-mul-add, div-add-mod', div_below, mod_below}
use Rattle.go_rules.specs.Board.{largest_size}
use Rattle.go_rules.specs.Transform.{largest_offset}
use Rattle.dfa_match.specs.declared.cursor.Cursor.{Cursor}
use Rattle.dfa_match.specs.SeenLetters.{padded_side}
use Rattle.dfa_match.specs.Steps.{corner_at, anchor_at_corner, cursor_at, last_corner}

-- a board that has a point has a row
some_rows : (s m : ℕ) → m < s * s → 0 < s
some_rows zero m on = absurd (omega (arith, on))
some_rows (suc s) m on = omega arith

-- the point whose square begins where that of the point m does is m
pub anchor_of_corner : (s m : ℕ) → s ≤ largest_size → m < s * s → anchor_at_corner s (corner_at s m) ≡ m
unfolding anchor_at_corner
anchor_of_corner s m few on = grind (arith, mod_below, some_rows, div-mul-add, mod-mul-add, div-add-mod')

-- the square around a point begins no later than that around the last point of the largest board
pub corner_low : (s m : ℕ) → 0 < s → s ≤ largest_size → m < s * s → corner_at s m ≤ last_corner
corner_low s m some few on = omega (arith, div_below m s s some on, mod_below m s some)

module _ (s m : ℕ) (at : Cursor) (is : at ≡ cursor_at s m) where
  -- where its square begins
  pub corner_is : at.corner ≡ corner_at s m
  corner_is = ap (λ (c : Cursor). c.corner) is

  -- the next point of a row stands one column further
  pub cursor_in_row : at.column + 1 < s
      → record { column = at.column + 1; corner = at.corner + 1 } ≡ cursor_at s (m + 1)
  cursor_in_row low =
      grind (arith, div-add-mod' m s, div-mul-add (m / s) s (m % s + 1), mod-mul-add (m / s) s (m % s + 1), corner_is)

  -- behind the last point of a row the next row begins
  pub cursor_in_next_row : at.column < s → s ≤ at.column + 1 → (corner : ℕ)
      → corner + at.column ≡ at.corner + padded_side → record { column = 0; corner = corner } ≡ cursor_at s (m + 1)
  cursor_in_next_row low end corner is_corner = grind (arith, div-add-mod', div-mul-add, mod-mul-add, corner_is)

  -- the point itself lies behind the beginning of its square
  pub cursor_place : at.corner + (largest_offset * padded_side + largest_offset)
      ≡ (m / s + largest_offset) * padded_side + (m % s + largest_offset)
  cursor_place = omega (arith, corner_is)

  -- its square begins no later than the last
  pub cursor_corner : 0 < s → s ≤ largest_size → m < s * s → at.corner ≤ last_corner
  cursor_corner some few on = omega (arith, corner_is, corner_low s m some few on)
