-- What a pattern draws along the spiral, and its length.
use Rattle.std.proofs.Common.{◌≡◌, ℕ, zero, suc, ◌-◌, ◌<◌, ◌≤◌, true, false, cond, ℤ, pos, ◌+ℤ◌, refl, ap, arith}
use Rattle.std.proofs.lemmas.Bool.{cases_Bool}
use Rattle.go_rules.specs.Transform.{Offset}
use Rattle.spiral.specs.Spiral.{offset_at, offset_count}
use Rattle.pat_types.specs.declared.pattern.Pattern.{Pattern}
use Rattle.pat_types.specs.declared.cell.Drawn.{Drawn}
use Rattle.pat_types.specs.Cells.{drawn_at, anchor_of}
use Rattle.dfa_core.specs.Fits.{drawn_along, is_drawn, length_below, pattern_length}

-- the anchor and the offset give the cell
pub drawn_along_at : (p : Pattern) (i : ℕ) (d : Drawn) (a : ℕ × ℕ) (o : Offset) (r c : ℤ) → a ≡ anchor_of p
    → o ≡ offset_at i → r ≡ pos a.0 +ℤ o.0 → c ≡ pos a.1 +ℤ o.1
    → d ≡ drawn_at p r c → d ≡ drawn_along p i
unfolding drawn_along
drawn_along_at p i d a o r c anchor offset row column e = rw (e, row, column, anchor, offset) refl

-- where a cell is drawn at an index, that is the last below the next
pub length_below-drawn : (p : Pattern) (i : ℕ) → is_drawn (drawn_along p i) ≡ true → length_below p (suc i) ≡ suc i
unfolding length_below
length_below-drawn p i e = ap (λ b. cond b (suc i) (length_below p i)) e

-- and where none is, the last is one before
pub length_below-blank : (p : Pattern) (i : ℕ) → is_drawn (drawn_along p i) ≡ false
    → length_below p (suc i) ≡ length_below p i
unfolding length_below
length_below-blank p i e = ap (λ b. cond b (suc i) (length_below p i)) e

-- where a cell is drawn at the last index, that is the greatest
pub length_at_drawn : (p : Pattern) (n : ℕ) → 0 < n → is_drawn (drawn_along p (n - 1)) ≡ true → n ≡ length_below p n
length_at_drawn p zero more drawn = absurd (omega arith)
length_at_drawn p (suc i) more drawn = grind (arith, length_below-drawn)

-- and where none is, one index fewer does
pub length_at_blank : (p : Pattern) (n : ℕ) → 0 < n → is_drawn (drawn_along p (n - 1)) ≡ false
    → length_below p (n - 1) ≡ length_below p n
length_at_blank p zero more blank = absurd (omega arith)
length_at_blank p (suc i) more blank = grind (arith, length_below-blank)

-- nothing is drawn below the first index
pub length_below-zero : (p : Pattern) (n : ℕ) → n ≡ 0 → 0 ≡ length_below p n
unfolding length_below
length_below-zero p n e = rw e refl

-- the length below n is at most n
length_below-most : (p : Pattern) (n : ℕ) → length_below p n ≤ n
length_below-most p zero = omega (arith, length_below-zero p 0 refl)
length_below-most p (suc n) = grind (arith, cases_Bool, length_below-drawn, length_below-blank, length_below-most p n)

-- no pattern is longer than the spiral
pub pattern_length-most : (p : Pattern) → pattern_length p ≤ offset_count
unfolding pattern_length
pattern_length-most p = length_below-most p offset_count
