-- The vertex that is printed for a point is read as that point.
use Rattle.std.proofs.Common.{◌≡◌, ℕ, ◌+◌, ◌-◌, ◌*◌, ◌/◌, ◌%◌, ◌<◌, Bool, true, false, eqb, not}
use Rattle.std.proofs.Common.{[], ◌∷◌, Option, Some, None, refl, arith, decimal}
use Rattle.std.proofs.Common.{slice_index}
use Rattle.std.proofs.Math.Nat.{div-lt_iff_lt-mul}
use Rattle.std.proofs.lemmas.Nat.{div-add-mod'}
use Rattle.std.proofs.lemmas.Bool.{both_ways, eqb-true, cases_lt}
use Rattle.std.proofs.lemmas.Fmt.{decimal_digit, decimal_step}
use Rattle.std.proofs.lemmas.Bool.Decides.{nat_tests}
use Rattle.go_rules.specs.Board.{IsSize}
use Rattle.go_rules.proofs.Counts.{any_below_none}
use Rattle.vertices.specs.Vertices.{column_letters, column_named, row_number_of, vertex_of, vertex_text}

-- the number is there, and is this one
is_number : Option ℕ → ℕ → Bool
is_number None n = false
is_number (Some m) n = eqb m n

-- a number that is there and is this one is this one
number_from : (o : Option ℕ) (n : ℕ) → not (is_number o n) ≡ false → o ≡ Some n
unfolding is_number
number_from None n h = absurd (both_ways true h refl)
number_from (Some m) n h = grind (arith, eqb-true)

-- each letter of a column names that column
column_read : (c : ℕ) → c < 25 → column_named (slice_index column_letters c) ≡ Some c
unfolding is_number
column_read c h = number_from _ c
    (any_below_none 25 (λ k. not (is_number (column_named (slice_index column_letters k)) k)) c refl h)

-- one digit writes a number below ten
one_digit : (n : ℕ) → n < 10 → row_number_of ((48 + n) ∷ []) ≡ Some n
unfolding is_number
one_digit n h = number_from _ n (any_below_none 10 (λ k. not (is_number (row_number_of ((48 + k) ∷ [])) k)) n refl h)

-- two digits write a number below a hundred
two_digits : (n : ℕ) → n < 100 → row_number_of ((48 + n / 10) ∷ (48 + n % 10) ∷ []) ≡ Some n
unfolding is_number
two_digits n h = number_from _ n
    (any_below_none 100 (λ k. not (is_number (row_number_of ((48 + k / 10) ∷ (48 + k % 10) ∷ [])) k)) n refl h)

-- each printed number of a row is read as that number
row_read : (n : ℕ) → n < 100 → row_number_of (decimal n) ≡ Some n
row_read n h =
    grind (arith, cases_lt n 10, decimal_digit n, one_digit n, decimal_step n, decimal_digit (n / 10), two_digits n h)

-- the vertex that is printed for a point is read as that point
pub vertex_read : (s p : ℕ) → IsSize s → p < s * s → vertex_of s (vertex_text s p) ≡ Some p
vertex_read s p size on = grind (arith, div-lt_iff_lt-mul, nat_tests, div-add-mod' p s, column_read (p % s), row_read)
