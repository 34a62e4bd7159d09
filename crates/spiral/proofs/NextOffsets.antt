-- Which offset follows another, by tests that the checker computes over all offsets.
use Rattle.std.proofs.Common.{◌≡◌, ℕ, suc, ◌+◌, ◌<◌, Bool, true, false, ◌&&◌, cond, ℤ, pos, ◌+ℤ◌, ◌-ℤ◌, ◌≤ℤ◌, ◌∙◌, ◌<ℤ◌}
use Rattle.std.proofs.Common.{refl, ap, arith, inl, inr, ◌-◌, ◌⊎◌}
use Rattle.std.proofs.Math.Bool.{and-false}
use Rattle.std.proofs.lemmas.Bool.{agree_below, agree_below_at, and_parts, cases_Bool}
use Rattle.std.specs.Int.Signed.{le_z}
use Rattle.std.proofs.lemmas.Int.{ints}
use Rattle.go_rules.specs.Transform.{Offset}
use Rattle.spiral.specs.Spiral.{offset_at, offset_count}
use Rattle.spiral.proofs.Indexes.{same_ℤ, same_ℤ-true}
use Rattle.spiral.proofs.Places.{offset_by_parts}

-- a test that holds is passed
passes : (a b : ℤ) → a ≤ℤ b → le_z a b ≡ true
passes a b low = grind (arith, cases_Bool)

-- a test that does not hold is not passed
fails : (a b : ℤ) → (b +ℤ pos 1) ≤ℤ a → le_z a b ≡ false
fails a b high = grind (arith, cases_Bool, ints)

-- whether the offset lies on the top of its ring, before the right corner
abbrev pub is_top : Offset → Bool
is_top d = le_z ((d.0 +ℤ d.1) +ℤ pos 1) (pos 0) && le_z d.0 d.1

-- the offset that comes after d: right along the top, down the right side, left along the bottom, up the left side, or
-- into the next ring
abbrev after : Offset → Offset
after d =
    cond (is_top d) (d.0, d.1 +ℤ pos 1)
    (cond (le_z (d.0 +ℤ pos 1) d.1) (d.0 +ℤ pos 1, d.1)
    (cond (le_z (pos 1) (d.0 +ℤ d.1)) (d.0, d.1 -ℤ pos 1)
    (cond (le_z (d.1 +ℤ pos 2) d.0) (d.0 -ℤ pos 1, d.1) (d.1 -ℤ pos 1, d.1 -ℤ pos 1))))

-- whether the offset with the index i + 1 comes after the one with the index i
abbrev is_followed : ℕ → Bool
is_followed i = same_ℤ (offset_at (suc i)).0 (after (offset_at i)).0
    && same_ℤ (offset_at (suc i)).1 (after (offset_at i)).1

-- each offset but the last is followed by the one that comes after it, computed over all of them
all_followed : agree_below is_followed (λ _. true) (offset_count - 1) ≡ true
unfolding offset_at
all_followed = refl

-- the offset with the next index comes after
followed : (d : Offset) (i : ℕ) → i + 1 < offset_count → offset_at i ≡ d → offset_at (i + 1) ≡ after d
followed d i low here =
    let test = agree_below_at is_followed (λ _. true) (offset_count - 1) i all_followed (omega arith) in
    let parts = and_parts (same_ℤ (offset_at (suc i)).0 (after (offset_at i)).0) _ test in
    let next : i + 1 ≡ suc i = omega arith in
    ap offset_at next
    ∙ offset_by_parts _ _ (after (offset_at i)).0 (after (offset_at i)).1 (after (offset_at i)) refl
    (same_ℤ-true _ _ parts.0) (same_ℤ-true _ _ parts.1)
    ∙ ap after here

-- below the diagonals the offset does not lie on the top
pub fails-top : (d : Offset) → (pos 0 ≤ℤ (d.0 +ℤ d.1)) ⊎ (d.1 <ℤ d.0) → is_top d ≡ false
fails-top d (inl sum) = rw (fails ((d.0 +ℤ d.1) +ℤ pos 1) (pos 0) (omega (arith, ints))) refl
fails-top d (inr order) = grind (arith, pos, fails, ints, and-false)

module _ (d : Offset) (i : ℕ) (low : i + 1 < offset_count) (here : offset_at i ≡ d) where
  -- on the top the next offset lies to the right
  pub next-top : (d.0 +ℤ d.1) <ℤ pos 0 → d.0 ≤ℤ d.1 → offset_at (i + 1) ≡ (d.0, d.1 +ℤ pos 1)
  next-top sum order = grind (arith, followed, passes, pos, ints)

  -- on the right side it lies below
  pub next-right : is_top d ≡ false → d.0 <ℤ d.1 → offset_at (i + 1) ≡ (d.0 +ℤ pos 1, d.1)
  next-right top order = followed d i low here ∙ rw (top, passes (d.0 +ℤ pos 1) d.1 (omega (arith, ints))) refl

  -- on the bottom it lies to the left
  pub next-bottom : is_top d ≡ false → d.1 ≤ℤ d.0 → pos 0 <ℤ (d.0 +ℤ d.1) → offset_at (i + 1) ≡ (d.0, d.1 -ℤ pos 1)
  next-bottom top order sum = grind (arith, followed, fails, pos, ints, passes)

  -- on the left side it lies above
  pub next-left : is_top d ≡ false → d.1 ≤ℤ d.0 → (d.0 +ℤ d.1) ≤ℤ pos 0 → (d.1 +ℤ pos 1) <ℤ d.0
      → offset_at (i + 1) ≡ (d.0 -ℤ pos 1, d.1)
  next-left top order sum up = grind (arith, followed, fails, pos, ints, passes)

  -- the last of a ring is followed by the first of the next
  pub next-ring : is_top d ≡ false → d.1 ≤ℤ d.0 → (d.0 +ℤ d.1) ≤ℤ pos 0 → d.0 ≤ℤ (d.1 +ℤ pos 1)
      → offset_at (i + 1) ≡ (d.1 -ℤ pos 1, d.1 -ℤ pos 1)
  next-ring top order sum last =
      followed d i low here
      ∙ rw (
        top,
        fails (d.0 +ℤ pos 1) d.1 (omega (arith, ints)),
        fails (pos 1) (d.0 +ℤ d.1) (omega (arith, ints)),
        fails (d.1 +ℤ pos 2) d.0 (omega (arith, ints)),
      ) refl
