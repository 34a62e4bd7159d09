-- The least member of a set of points, by the words that keep it.
use Rattle.std.proofs.Common.{◌≡◌, ℕ, ◌+◌, ◌-◌, ◌*◌, ◌/◌, ◌%◌, ◌^◌, ◌<◌, ◌≤◌, true, false, cond, ltb, List}
use Rattle.std.proofs.Common.{Option, Some, None, IfSome, IfNone, get_or, refl, sym, ap, arith, ◌∙◌}
use Rattle.std.proofs.Math.Nat.{div-div-eq-div-mul, div-le_self}
use Rattle.std.proofs.lemmas.Nat.{pow-add, div-mul-add, mod-mul-add}
use Rattle.std.proofs.lemmas.Nat.Bits.{bit_at-zero, bit_at_above, bit_at-trailing_zeros}
use Rattle.std.proofs.lemmas.Bool.{cases_lt, lt-ltb, le-ltb}
use Rattle.std.specs.Int.{bit_at, w64, trailing_zeros}
use Rattle.std.specs.FinSet as sets
use Rattle.go_rules.specs.Board.{largest_points}
use Rattle.go_rules.proofs.Tests.{and-false}
use Rattle.go_base.specs.Bits.{is_marked, marked}
use Rattle.go_base.proofs.Marks.{contains-marked, contains-above}

-- a bit of what is left after a shift
bit_at-shift : (word from j : ℕ) → bit_at (word / 2 ^ from) j ≡ bit_at word (from + j)
bit_at-shift word from j = grind (arith, div-div-eq-div-mul, pow-add)

-- no bit from the place on is set if nothing is left
pub nothing_left : (word from : ℕ) → word / 2 ^ from ≡ 0 → (k : ℕ) → from ≤ k → bit_at word k ≡ 0
nothing_left word from z k h = grind (arith, bit_at-shift word from (k - from), bit_at-zero (k - from))

-- the lowest bit that is set from a place on
pub record LowestFrom (word from at : ℕ) : Type 0 where
  pub bound : at < 64
  pub hit : bit_at word at ≡ 1
  pub misses : (k : ℕ) → from ≤ k → k < at → bit_at word k ≡ 0

-- the lowest bit that is not below a place is found by the zeros behind it
pub lowest_from : (word from : ℕ) → word < 2 ^ 64 → 0 < word / 2 ^ from
    → LowestFrom word from (from + trailing_zeros w64 (word / 2 ^ from))
lowest_from word from fits some =
    let rest : ℕ = word / 2 ^ from in
    let small : rest < 2 ^ 64 = omega (arith, div-le_self word (2 ^ from), fits) in
    let low = bit_at-trailing_zeros w64 rest some small in
    let t : ℕ = trailing_zeros w64 rest in
    let is_hit : bit_at word (from + t) ≡ 1 = sym (bit_at-shift word from t) ∙ low.1 in
    record {
      bound = grind (arith, cases_lt (from + t) 64, bit_at_above word 64 (from + t) fits);
      hit = is_hit;
      misses = λ k l m.
          let e : from + (k - from) ≡ k = omega arith in
          ap (bit_at word) (sym e) ∙ sym (bit_at-shift word from (k - from)) ∙ low.2 (k - from) (omega arith);
    }

module _ (words : List ℕ) (p from bit : ℕ) (low : p ≤ from) (before : (r : ℕ) → p ≤ r → r < from
    → is_marked words r ≡ false)
    (misses : (k : ℕ) → from % 64 ≤ k → k < bit → bit_at (get_or words (from / 64) 0) k ≡ 0) (bound : bit ≤ 64) where
  -- no point from p on is marked before the bit
  pub none_before : (r : ℕ) → p ≤ r → r < from / 64 * 64 + bit → is_marked words r ≡ false
  none_before r l m = grind (arith, cases_lt)

  -- the bit's point is marked
  pub is_marked-found : bit < 64 → bit_at (get_or words (from / 64) 0) bit ≡ 1
      → is_marked words (from / 64 * 64 + bit) ≡ true
  is_marked-found small hit = rw (div-mul-add (from / 64) 64 bit small, mod-mul-add (from / 64) 64 bit small, hit) refl

-- the first point from p on that the words mark, if one below the end is marked
abbrev pub IsFirstMarked : List ℕ → ℕ → ℕ → Option ℕ → Type 0
IsFirstMarked words p end o =
    IfSome o (λ x. (p ≤ x) × (x < end) × (is_marked words x ≡ true)
    × ((r : ℕ) → p ≤ r → r < x → is_marked words r ≡ false))

-- if there is none, no point from p on below the end is marked
abbrev pub NoneMarked : List ℕ → ℕ → ℕ → Option ℕ → Type 0
NoneMarked words p end o = IfNone o ((r : ℕ) → p ≤ r → r < end → is_marked words r ≡ false)

module _ (words : List ℕ) (p q end : ℕ) (low : p ≤ q)
    (before : (r : ℕ) → p ≤ r → r < q → is_marked words r ≡ false) where
  -- the first that is marked from p on is q, if q is below the end
  pub first_some : is_marked words q ≡ true → (o : Option ℕ) → o ≡ cond (ltb q end) (Some q) None
      → IsFirstMarked words p end o
  first_some hit o e = grind (arith, cases_lt, lt-ltb, le-ltb)

  -- and where it is not, none is marked
  pub first_none : (o : Option ℕ) → o ≡ cond (ltb q end) (Some q) None → NoneMarked words p end o
  first_none o e = grind (arith, cases_lt, lt-ltb, le-ltb)

-- a point that is not marked is not in the set
pub not_member : (words : List ℕ) (r : ℕ) → is_marked words r ≡ false → sets.contains (marked words) r ≡ false
not_member words r h = grind (arith, contains-marked, and-false)

-- the first point that is marked is the first member of the set
pub first_member : (words : List ℕ) (p : ℕ) (o : Option ℕ) → IsFirstMarked words p largest_points o
    → IfSome o (λ x. (p ≤ x) × (x < largest_points) × (sets.contains (marked words) x ≡ true)
    × ((r : ℕ) → p ≤ r → r < x → sets.contains (marked words) r ≡ false))
first_member words p None h = tt
first_member words p (Some x) h = grind (arith, contains-marked, lt-ltb, not_member)

-- and where no point of the board is marked from p on, the set has no member there
pub no_member : (words : List ℕ) (p : ℕ) (o : Option ℕ) → NoneMarked words p largest_points o
    → IfNone o ((r : ℕ) → p ≤ r → sets.contains (marked words) r ≡ false)
no_member words p None h = grind (arith, cases_lt, not_member, contains-above)
no_member words p (Some x) h = tt

-- nor has it one if no point at all is marked from p on
pub no_member_from : (words : List ℕ) (p : ℕ) (o : Option ℕ) → IfNone o ((r : ℕ) → p ≤ r → is_marked words r ≡ false)
    → IfNone o ((r : ℕ) → p ≤ r → sets.contains (marked words) r ≡ false)
no_member_from words p None h = λ r l. not_member words r (h r l)
no_member_from words p (Some x) h = tt
