-- The padded board, as it is filled and read.
use Rattle.std.proofs.Common.{◌≡◌, ℕ, ◌+◌, ◌*◌, ◌/◌, ◌%◌, ◌<◌, ◌≤◌, zero, suc, cond, Option, Some, None, ℤ, pos, negsuc}
use Rattle.std.proofs.Common.{◌+ℤ◌, ◌-ℤ◌, ◌≤ℤ◌, neg_ℤ, List, length, replicate, get_or, refl, sym, ap, ◌∙◌}
use Rattle.std.proofs.Common.{arith, inl, inr, length-set, get_or-set_same, get_or-set_other}
use Rattle.std.proofs.Math.ListN.{set}
use Rattle.std.proofs.lemmas.Int.{ints}
use Rattle.std.proofs.lemmas.Bool.{cases_lt, cases_eq, lt-ltb, le-ltb}
use Rattle.std.proofs.lemmas.Nat.{div-mul-add, mod-mul-add, div-add-mod', mul-add-lt, div_below, mod_below}
use Rattle.std.proofs.lemmas.List.{length-replicate, get_or-replicate}
use Rattle.go_rules.specs.declared.Colour.{Colour}
use Rattle.go_rules.specs.Position.{BoardState}
use Rattle.go_rules.specs.Strings.{cell_at}
use Rattle.go_rules.specs.Board.{largest_size}
use Rattle.go_rules.specs.Transform.{Offset, transformed, largest_offset, IsNear}
use Rattle.spiral.specs.Spiral.{offset_at, place_at, strip_of, point_of}
use Rattle.dfa_core.specs.declared.automaton.Seen.{Seen}
use Rattle.dfa_core.specs.declared.automaton.Seen.TheVariants.{Off}
use Rattle.dfa_match.specs.Steps.{corner_at, strip_by, step_by}
use Rattle.dfa_match.specs.SeenLetters.{seen_of, seen_at, seen_at_place, padded_side, padded_point, seen_below}
use Rattle.dfa_match.specs.SeenLetters.{IsPaddedBoardBelow, IsPaddedBoard}

-- a strip of the board is its number
strip_from : (s : ℕ) (z : ℤ) (k : ℕ) → strip_of s z ≡ Some k → (z ≡ pos k) × (k < s)
strip_from s (pos n) k e = grind (arith, cases_lt, lt-ltb, pos, le-ltb)
strip_from s (negsuc n) k e = absurd (let h : ⊥ = cc in h)

-- a point has a row and a column
record HasParts (s : ℕ) (a b : Option ℕ) (q : ℕ) : Type 0 where
  row : ℕ
  column : ℕ
  in_row : a ≡ Some row
  in_column : b ≡ Some column
  number : row * s + column ≡ q

-- a point that a row and a column give has both, and its number is theirs
point_parts : (s : ℕ) (a b : Option ℕ) (q : ℕ) → point_of s a b ≡ Some q → HasParts s a b q
point_parts s None b q e = absurd (let h : ⊥ = cc in h)
point_parts s (Some r) None q e = absurd (let h : ⊥ = cc in h)
point_parts s (Some r) (Some c) q e = grind arith

-- a point of the padded board stands in the row and the column of its number
record IsThere (s r c q : ℕ) : Type 0 where
  row : r ≡ q / s + largest_offset
  column : c ≡ q % s + largest_offset
  below : q < s * s

-- a place of the padded board that has a point stands in that point's row and column
point_from : (s r c q : ℕ) → padded_point s r c ≡ Some q → IsThere s r c q
point_from s r c q e =
    grind (
      arith,
      point_parts s (strip_of s (pos r -ℤ pos largest_offset)) (strip_of s (pos c -ℤ pos largest_offset)) q e,
      strip_from s (pos r -ℤ pos largest_offset),
      div-mul-add,
    )

-- behind the margin each point of the board stands in its row and column
point_there : (s q : ℕ) → 0 < s → q < s * s → padded_point s (q / s + largest_offset) (q % s + largest_offset) ≡ Some q
point_there s q some low = grind (arith, lt-ltb, div_below, mod_below, div-add-mod')

-- the row and the column of a point lie on the padded board
pub row_low : (s q : ℕ) → 0 < s → s ≤ largest_size → q < s * s → q / s + largest_offset < padded_side
row_low s q some few low = omega (arith, div_below q s s some low)

-- the column of a point lies on the padded board
pub column_low : (s q : ℕ) → 0 < s → s ≤ largest_size → q % s + largest_offset < padded_side
column_low s q some few = omega (arith, mod_below q s some)

-- a board that has a point has a row
some_size : (s m : ℕ) → m < s * s → 0 < s
some_size zero m on = absurd (omega (arith, on))
some_size (suc s) m on = omega arith

-- the strip of the square of all offsets is that of the offset, behind the largest one
pub strip_by-is : (z : ℤ) → neg_ℤ (pos largest_offset) ≤ℤ z → pos (strip_by z) ≡ z +ℤ pos largest_offset
strip_by-is (pos n) low = omega (arith, ints)
strip_by-is (negsuc n) low = omega (arith, ints, low)

module _ (at : BoardState) (friend : Colour) where
  -- of no points nothing is seen but what is off the board
  below_none : (o : Option ℕ) → seen_below 0 at friend o ≡ Off
  below_none None = refl
  below_none (Some q) = ap (λ b. cond b (seen_of friend (cell_at at.cells q)) Off) (le-ltb q 0 (omega arith))

  -- one point more changes nothing that is seen at other places
  below_more : (n : ℕ) (o : Option ℕ) → (o ≡ Some n → ⊥) → seen_below n at friend o ≡ seen_below (n + 1) at friend o
  below_more n None other = refl
  below_more n (Some q) other = grind (arith, cases_eq, cases_lt, lt-ltb, le-ltb)

  -- where all points are looked at, each place shows what is seen there
  below_all : (n : ℕ) (o : Option ℕ) → ((q : ℕ) → o ≡ Some q → q < n)
      → seen_below n at friend o ≡ seen_at_place at friend o
  below_all n None low = refl
  below_all n (Some q) low = ap (λ b. cond b (seen_of friend (cell_at at.cells q)) Off) (lt-ltb q n (low q refl))

  -- at first nothing is seen
  pub padded_none : (letters : List Seen) → letters ≡ replicate (padded_side * padded_side) Off
      → IsPaddedBoardBelow 0 at friend letters
  padded_none letters e = record {
    length = ap length e ∙ length-replicate (padded_side * padded_side) Off;
    each = λ r c low low'. ap (λ xs. get_or xs (r * padded_side + c) Off) e
        ∙ get_or-replicate (padded_side * padded_side) (r * padded_side + c) Off Off
        (mul-add-lt r padded_side c padded_side low low') ∙ sym (below_none (padded_point at.size r c));
  }

  -- one point more is seen
  pub padded_more : (n w : ℕ) (letters : List Seen) (x : Seen) → IsPaddedBoardBelow n at friend letters → 0 < at.size
      → n < at.size * at.size
      → w ≡ (n / at.size + largest_offset) * padded_side + (n % at.size + largest_offset)
      → w < padded_side * padded_side → n / at.size + largest_offset < padded_side
      → n % at.size + largest_offset < padded_side
      → x ≡ seen_of friend (cell_at at.cells n) → IsPaddedBoardBelow (n + 1) at friend (set letters w x)
  padded_more n w letters x before some low place within row_low column_low is = record {
    length = length-set letters w x ∙ before.length;
    each = λ r c lr lc. elim (cases_eq (r * padded_side + c) w) [
      | inl same ↦
          let row : r ≡ n / at.size + largest_offset =
          sym (div-mul-add r padded_side c lc) ∙ ap (λ k. k / padded_side) (same ∙ place)
          ∙ div-mul-add (n / at.size + largest_offset) padded_side (n % at.size + largest_offset) column_low in
          let column : c ≡ n % at.size + largest_offset =
          sym (mod-mul-add r padded_side c lc) ∙ ap (λ k. k % padded_side) (same ∙ place)
          ∙ mod-mul-add (n / at.size + largest_offset) padded_side (n % at.size + largest_offset) column_low in
          ap (λ k. get_or (set letters w x) k Off) same ∙ get_or-set_same letters w x Off (omega (arith, before.length))
          ∙ is
          ∙ sym (ap (λ b. cond b (seen_of friend (cell_at at.cells n)) Off) (lt-ltb n (n + 1) (omega arith)))
          ∙ ap (seen_below (n + 1) at friend)
          (sym (ap (λ k. padded_point at.size k c) row ∙ ap (padded_point at.size (n / at.size + largest_offset)) column
          ∙ point_there at.size n some low))
      | inr other ↦
          get_or-set_other letters w (r * padded_side + c) x Off other ∙ before.each r c lr lc
          ∙ below_more n (padded_point at.size r c)
          (λ here. let there = point_from at.size r c n here in
          other (ap (λ k. k * padded_side + c) there.row
          ∙ ap (λ k. (n / at.size + largest_offset) * padded_side + k) there.column ∙ sym place))
    ];
  }

  -- what a walk reads behind its corner is what is seen along the spiral
  pub letter_seen : (size : ℕ) (letters : List Seen) (t m i step : ℕ) (by : Offset)
      → IsPaddedBoard at friend size letters
      → m < at.size * at.size → IsNear by → by ≡ transformed t (offset_at i) → step ≡ step_by by
      → get_or letters (corner_at at.size m + step) Off ≡ seen_at at friend t m i
  unfolding seen_at place_at
  letter_seen size letters t m i step by padded on near moved is =
      let some : 0 < at.size = some_size at.size m on in
      let few : at.size ≤ largest_size = omega (arith, padded.same_size, padded.few) in
      let in_row = strip_by-is by.0 near.row_low in
      let in_column = strip_by-is by.1 near.column_low in
      let row : m / at.size < at.size = div_below m at.size at.size some on in
      let column : m % at.size < at.size = mod_below m at.size some in
      let place : corner_at at.size m + step ≡ (m / at.size + strip_by by.0) * padded_side +
      (m % at.size + strip_by by.1) = omega (arith, is) in
      let row_is : pos (m / at.size + strip_by by.0) -ℤ pos largest_offset ≡ pos (m / at.size) +ℤ
      (transformed t (offset_at i)).0 = omega (arith, ints, in_row, ap (λ (d : Offset). d.0) moved) in
      let column_is : pos (m % at.size + strip_by by.1) -ℤ pos largest_offset ≡ pos (m % at.size) +ℤ
      (transformed t (offset_at i)).1 = omega (arith, ints, in_column, ap (λ (d : Offset). d.1) moved) in
      ap (λ k. get_or letters k Off) place
      ∙ padded.all.each (m / at.size + strip_by by.0) (m % at.size + strip_by by.1)
      (omega (arith, ints, in_row, near.row_high)) (omega (arith, ints, in_column, near.column_high))
      ∙ below_all (at.size * at.size) (padded_point at.size (m / at.size + strip_by by.0) (m % at.size + strip_by by.1))
      (λ q here. (point_from at.size (m / at.size + strip_by by.0) (m % at.size + strip_by by.1) q here).below)
      ∙ ap (λ z. seen_at_place at friend
      (point_of at.size (strip_of at.size z)
      (strip_of at.size (pos (m % at.size + strip_by by.1) -ℤ pos largest_offset)))) row_is
      ∙ ap (λ z. seen_at_place at friend
      (point_of at.size (strip_of at.size (pos (m / at.size) +ℤ (transformed t (offset_at i)).0))
      (strip_of at.size z))) column_is
