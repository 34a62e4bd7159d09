-- How far from the anchor the cells of a pattern are drawn, and so how long it can be.
use Rattle.std.proofs.Common.{◌≡◌, ℕ, zero, suc, ◌+◌, ◌*◌, ◌<◌, ◌≤◌, Bool, true, false, nat_lt, max, min, ℤ, pos}
use Rattle.std.proofs.Common.{negsuc, ◌+ℤ◌, ◌≤ℤ◌, neg_ℤ, nat_abs, refl, ap, arith}
use Rattle.std.proofs.lemmas.Bool.{cases_Bool, cases_lt, agree_below, agree_below_at, ltb-true}
use Rattle.std.proofs.lemmas.Int.{ints}
use Rattle.std.proofs.Math.Nat.{mul-le-mul_left, mul-le-mul_right}
use Rattle.go_rules.specs.Transform.{Offset, largest_offset}
use Rattle.spiral.specs.Spiral.{ring_start, offset_at, offset_count}
use Rattle.pat_types.specs.declared.pattern.Pattern.{Pattern}
use Rattle.pat_types.specs.Diagrams.{drawn_strip}
use Rattle.pat_types.specs.Cells.{strip_at, drawn_at, anchor_of}
use Rattle.dfa_core.specs.Fits.{drawn_along, is_drawn, length_below, pattern_length}
use Rattle.dfa_core.proofs.Bounds.{IsAround, strip_around, drawn_strips, anchor_within}
use Rattle.dfa_core.proofs.Lengths.{length_below-blank}

-- the ring of an offset
abbrev ring_of : Offset → ℕ
ring_of d = max (nat_abs d.0) (nat_abs d.1)

-- each index stands before the first one of the ring after its own
all_inside : agree_below (λ i. nat_lt i (ring_start (suc (ring_of (offset_at i))))) (λ _. true) offset_count ≡ true
unfolding offset_at
all_inside = refl

-- no part of an integer between two opposite ones is greater than they
nat_abs-most : (z : ℤ) (k : ℕ) → neg_ℤ (pos k) ≤ℤ z → z ≤ℤ pos k → nat_abs z ≤ k
nat_abs-most (pos n) k low high = omega (arith, ints, high)
nat_abs-most (negsuc n) k low high = omega (arith, ints, low)

-- the index of an offset is one of the square that it lies in
index_inside : (i k : ℕ) → i < offset_count → nat_abs (offset_at i).0 ≤ k → nat_abs (offset_at i).1 ≤ k
    → i < (2 * k + 1) * (2 * k + 1)
index_inside i k low row column =
    let r : ℕ = ring_of (offset_at i) in
    let here : i < (2 * r + 1) * (2 * r + 1) =
    ltb-true i (ring_start (suc r))
    (agree_below_at (λ n. nat_lt n (ring_start (suc (ring_of (offset_at n)))))
    (λ _. true) offset_count i all_inside low) in
    let inside : 2 * r + 1 ≤ 2 * k + 1 = omega (arith, row, column) in
    omega (arith, here, mul-le-mul_left (2 * r + 1) inside, mul-le-mul_right (2 * k + 1) inside)

-- an edge is one line
strip_most : (b : Bool) → drawn_strip b ≤ 1
strip_most true = omega arith
strip_most false = omega arith

-- a drawn line is no farther from a line of the letters than there are letters
strip_near : (n a k : ℕ) (before after : Bool) (z : ℤ) → IsAround n before after (pos a +ℤ z) → a < n → n ≤ k
    → nat_abs z ≤ k
strip_near n a k before after z around on few = grind (arith, nat_abs-most, strip_most)

-- past the square of a pattern nothing is drawn
blank_outside : (p : Pattern) (k i : ℕ) → p.rows ≤ k → p.cols ≤ k → (2 * k + 1) * (2 * k + 1) ≤ i → i < offset_count
    → is_drawn (drawn_along p i) ≡ false
unfolding drawn_along drawn_at
blank_outside p k i rows columns past low =
    grind (
      arith,
      cases_Bool (is_drawn (drawn_along p i)),
      drawn_strips p (strip_at p.rows p.top p.bottom (pos (anchor_of p).0 +ℤ (offset_at i).0)) (strip_at p.cols p.left p.right (pos (anchor_of p).1 +ℤ (offset_at i).1)),
      anchor_within p,
      strip_near p.rows (anchor_of p).0 k p.top p.bottom (offset_at i).0,
      strip_around p.rows p.top p.bottom (pos (anchor_of p).0 +ℤ (offset_at i).0),
      strip_near p.cols (anchor_of p).1 k p.left p.right (offset_at i).1,
      strip_around p.cols p.left p.right (pos (anchor_of p).1 +ℤ (offset_at i).1),
      index_inside i k low,
    )

-- indices at which nothing is drawn add nothing to the length
length_below-blanks : (p : Pattern) (n m : ℕ) → n ≤ m → ((i : ℕ) → n ≤ i → i < m → is_drawn (drawn_along p i) ≡ false)
    → length_below p n ≡ length_below p m
length_below-blanks p n zero low blank = ap (length_below p) (omega (arith, low))
length_below-blanks p n (suc m) low blank = grind (arith, cases_lt, length_below-blank, length_below-blanks p n m)

-- the length of a pattern is found below the end of its square
pub length-inside : (p : Pattern) (k n : ℕ) → k ≡ min (max p.rows p.cols) largest_offset
    → n ≡ (2 * k + 1) * (2 * k + 1) → length_below p n ≡ pattern_length p
unfolding pattern_length
length-inside p k n is square =
    grind (arith, cases_lt k largest_offset, length_below-blanks p, blank_outside p, mul-le-mul_left, mul-le-mul_right)
