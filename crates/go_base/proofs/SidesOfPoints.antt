-- The four sides of a point have its neighbours.
use Rattle.std.proofs.Common.{◌≡◌, ℕ, zero, suc, ◌+◌, ◌-◌, ◌*◌, ◌/◌, ◌%◌, ◌<◌, ◌≤◌, Bool, true, false, cond, eqb}
use Rattle.std.proofs.Common.{Some, None, refl, sym, arith, inl, inr, ◌⊎◌, ◌∙◌, lit<}
use Rattle.std.proofs.lemmas.Bool.{cases_eq, lt-ltb, le-ltb, eq-eqb, eqb-true, ne_eqb, and_parts, and_from}
use Rattle.std.proofs.lemmas.Bool.{or_cases, or_left, or_right, ltb-true, ltb-false, eqb-false}
use Rattle.std.proofs.lemmas.Nat.{div-mul-add, mod-mul-add, div_below, mod_below, div-add-mod', mul-add-lt, mul-le}
use Rattle.go_rules.specs.Board.{largest_size, largest_points, are_neighbours, are_one_apart}
use Rattle.go_base.specs.Sides.{neighbour_at}

-- row r and column c are those of point r * s + c
row_column : (s p r c : ℕ) → c < s → p ≡ r * s + c → (p / s ≡ r) × (p % s ≡ c)
row_column s p r c h e = rw e (div-mul-add r s c h, mod-mul-add r s c h)

-- numbers of which one follows the other pass the test
are_one_apart-from : (a b : ℕ) → (a ≡ b + 1) ⊎ (b ≡ a + 1) → are_one_apart a b ≡ true
are_one_apart-from a b (inl e) = or_left _ _ (eq-eqb _ _ e)
are_one_apart-from a b (inr e) = or_right _ _ (eq-eqb _ _ e)

-- points of one row whose columns follow one another are neighbours
next_in_row : (s p q : ℕ) → p / s ≡ q / s → are_one_apart (p % s) (q % s) ≡ true → are_neighbours s p q ≡ true
unfolding are_neighbours
next_in_row s p q e h = or_left _ _ (and_from _ _ (eq-eqb _ _ e) h)

-- points of one column whose rows follow one another are neighbours
next_in_column : (s p q : ℕ) → p % s ≡ q % s → are_one_apart (p / s) (q / s) ≡ true → are_neighbours s p q ≡ true
unfolding are_neighbours
next_in_column s p q e h = or_right _ _ (and_from _ _ (eq-eqb _ _ e) h)

-- neighbours stand in one row and columns that follow one another, or the other way about
next_cases : (s p q : ℕ) → are_neighbours s p q ≡ true
    → ((p / s ≡ q / s) × ((p % s ≡ q % s + 1) ⊎ (q % s ≡ p % s + 1)))
    ⊎ ((p % s ≡ q % s) × ((p / s ≡ q / s + 1) ⊎ (q / s ≡ p / s + 1)))
unfolding are_neighbours
next_cases s p q h = grind (arith, or_cases, and_parts, eqb-true)

-- a board that has a point has a row
has_rows : (s p : ℕ) → p < s * s → 0 < s
has_rows s p on = grind (arith, cases_eq)

-- one row down is the next row, and the same column
row_down : (s p : ℕ) → 0 < s → ((p + s) / s ≡ p / s + 1) × ((p + s) % s ≡ p % s)
row_down s p pos =
    row_column s (p + s) (p / s + 1) (p % s) (mod_below p s pos) (omega (arith, div-add-mod' p s))

-- the point before one that is not first in its row is its neighbour
left : (s p : ℕ) → p < s * s → (p % s ≡ 0 → ⊥) → (p - 1 < s * s) × (are_neighbours s p (p - 1) ≡ true)
left s p on l = grind (arith, row_column s (p - 1) (p / s) (p % s - 1), next_in_row s p (p - 1))

-- the point after one that is not last in its row is its neighbour
right : (s p : ℕ) → p < s * s → (p % s + 1 ≡ s → ⊥) → (p + 1 < s * s) × (are_neighbours s p (p + 1) ≡ true)
right s p on l =
    let pos = has_rows s p on in
    let low : p % s + 1 < s = omega (arith, mod_below p s pos, l) in
    let next : p + 1 ≡ p / s * s + (p % s + 1) = omega (arith, div-add-mod' p s) in
    let its = row_column s (p + 1) (p / s) (p % s + 1) low next in
    let on_board : p + 1 < s * s = rw next (mul-add-lt (p / s) s (p % s + 1) s (div_below p s s pos on) low) in
    (on_board, next_in_row s p (p + 1) (sym its.0) (are_one_apart-from _ _ (inr its.1)))

-- a side that gives its point where a test passes gives it there alone
given_if : (test : Bool) (v q : ℕ) → cond test (Some v) None ≡ Some q → (test ≡ true) × (v ≡ q)
given_if true v q e = (refl, cc)
given_if false v q e = absurd (cc)

-- and one that gives its point where a test fails
given_unless : (test : Bool) (v q : ℕ) → cond test None (Some v) ≡ Some q → (test ≡ false) × (v ≡ q)
given_unless true v q e = absurd (cc)
given_unless false v q e = (refl, cc)

-- every other side is the one to the right
last_side : (s p side : ℕ)
    → neighbour_at s p (suc (suc (suc side))) ≡ cond (eqb (p % s + 1) s) None (Some (p + 1))
last_side s p side = grind (arith, ne_eqb)

-- What a side gives is a neighbour on the board.
pub neighbour_at-near : (s p side q : ℕ) → p < s * s → neighbour_at s p side ≡ Some q
    → (q < s * s) × (are_neighbours s p q ≡ true)
neighbour_at-near s p zero q h e =
    grind (arith, given_unless, row_down, has_rows, next_in_column, are_one_apart-from, ltb-false)
neighbour_at-near s p (suc zero) q h e =
    grind (arith, given_if, ltb-true, row_down, has_rows, next_in_column, are_one_apart-from)
neighbour_at-near s p (suc (suc zero)) q h e = grind (arith, given_unless, left, eqb-false)
neighbour_at-near s p (suc (suc (suc side))) q h e =
    let at = given_unless (eqb (p % s + 1) s) (p + 1) q (sym (last_side s p side) ∙ e) in
    rw (← at.1) (right s p h (eqb-false _ _ at.0))

-- one of the four sides gives the point
abbrev IsAtSide : ℕ → ℕ → ℕ → Type 0
IsAtSide s p q = (side : ℕ) × (side < 4) × (neighbour_at s p side ≡ Some q)

-- the point before or after p in its row is at a side
side_in_row : (s p q : ℕ) → q < s * s → p / s ≡ q / s → (p % s ≡ q % s + 1) ⊎ (q % s ≡ p % s + 1) → IsAtSide s p q
side_in_row s p q on row (inl e) =
    let next : p ≡ q + 1 = sym (div-add-mod' p s) ∙ rw (row, e) (omega (arith, div-add-mod' q s)) in
    let at : p - 1 ≡ q = omega arith in
    (2, lit< tt, rw (ne_eqb (p % s) 0 (λ z. omega (arith, z, e)), at) refl)
side_in_row s p q on row (inr e) =
    let next : q ≡ p + 1 = sym (div-add-mod' q s) ∙ rw (← row, e) (omega (arith, div-add-mod' p s)) in
    let low = mod_below q s (has_rows s q on) in
    (3, lit< tt, rw (ne_eqb (p % s + 1) s (λ z. omega (arith, z, e, low)), ← next) refl)

-- the point above or below p in its column is at a side
side_in_column : (s p q : ℕ) → q < s * s → p % s ≡ q % s → (p / s ≡ q / s + 1) ⊎ (q / s ≡ p / s + 1) → IsAtSide s p q
side_in_column s p q on column (inl e) =
    let down : p ≡ q + s = sym (div-add-mod' p s) ∙ rw (column, e) (omega (arith, div-add-mod' q s)) in
    let at : p - s ≡ q = omega arith in
    (0, lit< tt, rw (le-ltb p s (omega arith), at) refl)
side_in_column s p q on column (inr e) =
    let down : q ≡ p + s = sym (div-add-mod' q s) ∙ rw (← column, e) (omega (arith, div-add-mod' p s)) in
    (1, lit< tt, rw (← down, lt-ltb q (s * s) on) refl)

-- Each neighbour is at some side.
pub neighbour_at-all : (s p q : ℕ) → p < s * s → q < s * s → are_neighbours s p q ≡ true
    → (side : ℕ) × (side < 4) × (neighbour_at s p side ≡ Some q)
neighbour_at-all s p q h k n = grind (arith, next_cases s p q n, side_in_row s p q k, side_in_column s p q k)

-- a board has no more points than the largest one
pub square_small : (s : ℕ) → s ≤ largest_size → s * s ≤ largest_points
square_small s h = mul-le s s largest_size largest_size h h

-- q is a neighbour of p on a board of size s, and a point of the largest board.
abbrev pub IsNear : ℕ → ℕ → ℕ → Type 0
IsNear s p q = (q < s * s) × (q < largest_points) × (are_neighbours s p q ≡ true)

-- a neighbour on a board is one on the largest board too
near_from : (s p q : ℕ) → s ≤ largest_size → (q < s * s) × (are_neighbours s p q ≡ true) → IsNear s p q
near_from s p q small h = (h.0, omega (arith, square_small s small, h.0), h.1)

-- the point above is a neighbour
pub near_above : (s t p : ℕ) → t ≡ s → s ≤ largest_size → p < s * s → t ≤ p → IsNear s p (p - t)
near_above s t p e small h l = grind (arith, near_from, row_down, has_rows, next_in_column, are_one_apart-from)

-- the point below is a neighbour
pub near_below : (s t p : ℕ) → t ≡ s → s ≤ largest_size → p < s * s → p + t < t * t → IsNear s p (p + t)
near_below s t p e small h l = grind (arith, near_from, row_down, has_rows, next_in_column, are_one_apart-from)

-- the point to the left is a neighbour
pub near_left : (s t p : ℕ) → t ≡ s → s ≤ largest_size → p < s * s → (p % t ≡ 0 → ⊥) → IsNear s p (p - 1)
near_left s t p e small h l = let l' = rw e at l in near_from s p (p - 1) small (left s p h l')

-- the point to the right is a neighbour
pub near_right : (s t p : ℕ) → t ≡ s → s ≤ largest_size → p < s * s → (p % t + 1 ≡ t → ⊥) → IsNear s p (p + 1)
near_right s t p e small h l = let l' = rw e at l in near_from s p (p + 1) small (right s p h l')
