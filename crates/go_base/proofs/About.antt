-- The points that some fact is about, one after another.
use Rattle.std.proofs.Common.{◌≡◌, ℕ, ◌+◌, ◌<◌, ◌≤◌, ◌||◌, ◌&&◌, Bool, true, false, ltb, refl, arith, inl, inr}
use Rattle.std.proofs.Common.{◌*◌, ◌↔◌}
use Rattle.std.proofs.lemmas.Bool.{cases_lt, lt-ltb, le-ltb, and_parts, and_from, or_left, or_right, or_cases}
use Rattle.std.specs.Ordering.{nat_cmp}
use Rattle.go_rules.specs.declared.Cell.{Cell}
use Rattle.go_rules.specs.declared.Cell.TheVariants.{Empty, Black, White}
use Rattle.go_rules.specs.declared.Colour.{Colour}
use Rattle.go_rules.specs.declared.Colour.TheVariants.{Black as black, White as white}
use Rattle.go_rules.specs.Position.{is_banned}
use Rattle.go_base.specs.Bits.{is_marked}
use Rattle.go_base.specs.declared.facts.Facts.{Facts}
use Rattle.go_base.specs.Facts.{SizeIs, CellIs, BanIs}
use Rattle.go_base.specs.AmongFacts.{seen_as, asked_of, is_fact_at, HasFactOf}
use Rattle.go_base.proofs.SeenFacts.{same_bool-refl}
use Rattle.std.specs.FinSet as set
use Rattle.go_rules.specs.Below.{set_below}
use Rattle.go_rules.proofs.Sets.{contains-set_below, same_nat_set, set_below-hit}

-- one of five tests passes, whichever two are asked first
pub one_of_five : (a b c d e : Bool) → ((((a || b) || c) || d) || e) ≡ ((a || (b || c)) || (d || e))
one_of_five true b c d e = refl
one_of_five false true c d e = refl
one_of_five false false true d e = refl
one_of_five false false false d e = refl

-- numbers that fail add nothing to the set below
pub set_below-skip : (test : ℕ → Bool) (n m : ℕ) → n ≤ m → ((r : ℕ) → n ≤ r → r < m → test r ≡ false)
    → set_below n test ≡ set_below m test
set_below-skip test n m l none = grind (arith, same_nat_set, contains-set_below, cases_lt, lt-ltb, le-ltb)

-- the next number that passes comes after those that fail
pub set_below-next : (test : ℕ → Bool) (n m : ℕ) → n ≤ m → ((r : ℕ) → n ≤ r → r < m → test r ≡ false) → test m ≡ true
    → set.insert (set_below n test) m ≡ set_below (m + 1) test
set_below-next test n m l none hit = grind (arith, set_below-skip, set_below-hit)

-- a point with a fact of its own is among those that the facts are about
fact_from : (f : Facts) (p : ℕ) → HasFactOf f p → (ltb p (f.size * f.size) && is_fact_at f p) ≡ true
fact_from f p (SizeIs n, is, at) = absurd at
fact_from f p (CellIs q cell, is, at) = grind (arith, and_parts, and_from, or_left, or_right)
fact_from f p (BanIs q c forbidden, is, at) = grind (arith, and_parts, and_from, or_right, or_left)

-- and each of these has one
fact_to : (f : Facts) (p : ℕ) → (ltb p (f.size * f.size) && is_fact_at f p) ≡ true → HasFactOf f p
fact_to f p h =
    let parts = and_parts _ _ h in
    elim (or_cases _ _ parts.1) [
      | inl seen ↦ elim (or_cases _ _ seen) [
        | inl e ↦ cell Empty parts.0 e
        | inr s ↦ elim (or_cases _ _ s) [ inl b ↦ cell Black parts.0 b | inr w ↦ cell White parts.0 w ]
      ]
      | inr asked ↦ elim (or_cases _ _ asked) [ inl b ↦ ban black parts.0 b | inr w ↦ ban white parts.0 w ]
    ]
  where
    cell : (x : Cell) → ltb p (f.size * f.size) ≡ true → is_marked (seen_as f x) p ≡ true → HasFactOf f p
    cell x on m = (CellIs p x, and_from _ _ on m, refl)

    ban : (c : Colour) → ltb p (f.size * f.size) ≡ true → is_marked (asked_of f c) p ≡ true → HasFactOf f p
    ban c on m = (
      BanIs p c (is_banned f.ban c p),
      and_from _ _ on (and_from _ _ m (same_bool-refl (is_banned f.ban c p))),
      refl,
    )

-- the set of the points that are marked for a fact has those with a fact of their own
pub points_with_facts : (f : Facts) (points : set.FinSet nat_cmp) → points ≡ set_below (f.size * f.size) (is_fact_at f)
    → (p : ℕ) → (set.contains points p ≡ true) ↔ HasFactOf f p
points_with_facts f points e p = grind (arith, contains-set_below, fact_to, fact_from)
