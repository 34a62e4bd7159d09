-- The index of each offset, by tests that the checker computes over all offsets.
use Rattle.std.proofs.Common.{◌≡◌, ℕ, ◌+◌, ◌-◌, ◌<◌, Bool, true, false, ◌&&◌, ◌==◌, nat_lt, max, ℤ, pos, negsuc, suc}
use Rattle.std.proofs.Common.{◌+ℤ◌, ◌-ℤ◌, ◌≤ℤ◌, neg_ℤ, nat_abs, ◌∙◌, refl, sym, ap, arith}
use Rattle.std.proofs.lemmas.Bool.{agree_below, agree_below_at, and_parts, ltb-true, eqb-true, false≢true}
use Rattle.std.specs.Int.Signed.{le_z}
use Rattle.std.proofs.lemmas.Int.{ints}
use Rattle.go_rules.specs.Transform.{Offset, IsNear, largest_offset}
use Rattle.spiral.specs.Spiral.{ring_start, place_in, offset_at, offset_count, square_side}
use Rattle.spiral.proofs.Places.{offset_by_parts}

-- how far two numbers are apart
abbrev pub apart : ℕ → ℕ → ℕ
apart a b = (a - b) + (b - a)

-- the ring of the offset in this row and column, both counted from the first of all rows and columns
abbrev pub ring_at : ℕ → ℕ → ℕ
ring_at row column = max (apart row largest_offset) (apart column largest_offset)

-- the index of the offset in this row and column
abbrev pub index_at : ℕ → ℕ → ℕ
index_at row column = ring_start (ring_at row column) + place_in (ring_at row column)
    (row + ring_at row column - largest_offset) (column + ring_at row column - largest_offset)

-- whether two integers are one
abbrev pub same_ℤ : ℤ → ℤ → Bool
same_ℤ (pos a) (pos b) = a == b
same_ℤ (pos a) (negsuc b) = false
same_ℤ (negsuc a) (pos b) = false
same_ℤ (negsuc a) (negsuc b) = a == b

-- integers that pass the test are one
pub same_ℤ-true : (a b : ℤ) → same_ℤ a b ≡ true → a ≡ b
same_ℤ-true (pos a) (pos b) e = ap pos (eqb-true a b e)
same_ℤ-true (pos a) (negsuc b) e = absurd (false≢true e)
same_ℤ-true (negsuc a) (pos b) e = absurd (false≢true e)
same_ℤ-true (negsuc a) (negsuc b) e = ap negsuc (eqb-true a b e)

-- whether the offset with the index of a row and a column is the one there
abbrev is_indexed : ℕ → ℕ → Bool
is_indexed row column =
    nat_lt (index_at row column) offset_count
    && (same_ℤ (offset_at (index_at row column)).0 (pos row -ℤ pos largest_offset)
    && same_ℤ (offset_at (index_at row column)).1 (pos column -ℤ pos largest_offset))

-- the index of each row and column of the square has the offset there, computed over all of them
all_indexed : agree_below (λ row. agree_below (is_indexed row) (λ _. true) square_side) (λ _. true) square_side ≡ true
unfolding offset_at
all_indexed = refl

-- the offset with the index of this row and column is the one there
pub record IsIndexed (row column : ℕ) : Type 0 where
  pub bound : index_at row column < offset_count
  pub row_back : (offset_at (index_at row column)).0 ≡ pos row -ℤ pos largest_offset
  pub column_back : (offset_at (index_at row column)).1 ≡ pos column -ℤ pos largest_offset

-- the offset with the index of an offset is that offset
pub indexed : (row column : ℕ) → row < square_side → column < square_side → IsIndexed row column
indexed row column p q =
    let here = agree_below_at (is_indexed row) (λ _. true) square_side column
    (agree_below_at (λ r. agree_below (is_indexed r) (λ _. true) square_side)
    (λ _. true) square_side row all_indexed p) q in
    grind (arith, and_parts, nat_lt, pos, ltb-true, same_ℤ-true)

-- an offset whose parts are known by its index is the one in that row and column
pub indexed_as : (row column : ℕ) → IsIndexed row column
    → offset_at (index_at row column) ≡ (pos row -ℤ pos largest_offset, pos column -ℤ pos largest_offset)
indexed_as row column i = grind (arith, offset_by_parts, pos)

-- the start of the ring of an offset and its place in that ring make its index
pub found_at : (row column from_row from_column k start place : ℕ) → from_row ≡ apart row largest_offset
    → from_column ≡ apart column largest_offset → k ≡ max from_row from_column
    → start ≡ ring_start k → place ≡ place_in k (row + k - largest_offset) (column + k - largest_offset)
    → start + place ≡ index_at row column
found_at row column from_row from_column k start place r c m s p = rw (s, p, m, r, c) refl

-- the index of an offset, from its two parts
abbrev index_by : Offset → ℕ
index_by d = index_at (nat_abs (d.0 +ℤ pos largest_offset)) (nat_abs (d.1 +ℤ pos largest_offset))

-- each index is that of its offset, computed over all of them
all_back : agree_below (λ i. index_by (offset_at i) == i) (λ _. true) offset_count ≡ true
unfolding offset_at
all_back = refl

-- the index of the offset with an index is that index
index_back : (i : ℕ) → i < offset_count → index_by (offset_at i) ≡ i
index_back i p = eqb-true _ _ (agree_below_at (λ n. index_by (offset_at n) == n) (λ _. true) offset_count i all_back p)

-- no two indices have one offset
pub offsets_differ : (i j : ℕ) → i < offset_count → j < offset_count → offset_at i ≡ offset_at j → i ≡ j
offsets_differ i j p q e = sym (index_back i p) ∙ ap index_by e ∙ index_back j q

-- whether no part is beyond the largest offset
abbrev is_near : Offset → Bool
is_near d = (le_z (neg_ℤ (pos largest_offset)) d.0 && le_z d.0 (pos largest_offset))
    && (le_z (neg_ℤ (pos largest_offset)) d.1 && le_z d.1 (pos largest_offset))

-- no offset of the spiral has a part beyond the largest, computed over all of them
all_near : agree_below (λ i. is_near (offset_at i)) (λ _. true) offset_count ≡ true
unfolding offset_at
all_near = refl

-- no offset of the spiral has a part beyond the largest
pub offsets_near : (i : ℕ) → i < offset_count → IsNear (offset_at i)
offsets_near i p =
    let d : Offset = offset_at i in
    let here = agree_below_at (λ n. is_near (offset_at n)) (λ _. true) offset_count i all_near p in
    grind (arith, and_parts, neg_ℤ, pos)

-- a part that is not beyond the largest is that of some row or column of the square of all offsets
from_middle : (z : ℤ) → neg_ℤ (pos largest_offset) ≤ℤ z → z ≤ℤ pos largest_offset
    → (n : ℕ) × (n < square_side) × (pos n -ℤ pos largest_offset ≡ z)
from_middle (pos k) low high = (k + largest_offset, omega (arith, ints, high), omega (arith, ints))
from_middle (negsuc k) low high = (largest_offset - suc k, omega (arith, ints, low), omega (arith, ints, low))

-- each offset with no part beyond the largest has an index
pub offset_exists : (d : Offset) → IsNear d → (i : ℕ) × (i < offset_count) × (offset_at i ≡ d)
offset_exists d near =
    let row = from_middle d.0 near.row_low near.row_high in
    let column = from_middle d.1 near.column_low near.column_high in
    grind (arith, indexed row.0 column.0 row.1 column.1, indexed_as row.0 column.0, offset_by_parts)
