-- Points and places, and which of them are neighbours.
use Rattle.std.proofs.Common.{◌≡◌, ◌↔◌, ℕ, ◌*◌, ◌<◌, true, arith, inl, inr}
use Rattle.std.proofs.lemmas.Bool.{cases_eq, or_cases, or_left, or_right, and_parts, and_from, eqb-true, eq-eqb}
use Rattle.std.proofs.lemmas.Nat.{div-mul-add, mod-mul-add, div_below, mod_below, div-add-mod', mul-add-lt}
use Rattle.go_rules.specs.Board.{Place, IsOnBoard, point_at, place_of, are_one_apart, are_neighbours, AreConsecutive}
use Rattle.go_rules.specs.Board.{AreNeighbours}

-- a board with a point has a row
some_row : (s p : ℕ) → p < s * s → 0 < s
some_row s p h = grind (arith, cases_eq)

-- a point's place is on the board, and is the place of this point
pub on_its_place : (s p : ℕ) → p < s * s → IsOnBoard s (place_of s p) × (point_at s (place_of s p) ≡ p)
on_its_place s p h = ((div_below p s s (some_row s p h) h, mod_below p s (some_row s p h)), div-add-mod' p s)

-- a place's point is on the board, and is the point of this place
pub at_its_point : (s : ℕ) (a : Place) → IsOnBoard s a → (point_at s a < s * s) × (place_of s (point_at s a) ≡ a)
at_its_point s a h = grind (arith, mul-add-lt, div-mul-add, mod-mul-add)

-- which of two numbers follows the other does not matter
AreConsecutive-sym : (a b : ℕ) → AreConsecutive a b → AreConsecutive b a
AreConsecutive-sym a b (inl e) = inr e
AreConsecutive-sym a b (inr e) = inl e

-- neighbours are neighbours in both directions
pub AreNeighbours-sym : (s : ℕ) (a b : Place) → AreNeighbours s a b → AreNeighbours s b a
AreNeighbours-sym s a b near = grind (arith, AreConsecutive-sym)

-- the test of two numbers one apart
one_apart-true : (a b : ℕ) → are_one_apart a b ≡ true → AreConsecutive a b
one_apart-true a b h = elim (or_cases _ _ h) [ inl e ↦ inl (eqb-true _ _ e) | inr e ↦ inr (eqb-true _ _ e) ]

-- consecutive numbers pass the test
one_apart-from : (a b : ℕ) → AreConsecutive a b → are_one_apart a b ≡ true
one_apart-from a b (inl e) = or_left _ _ (eq-eqb _ _ e)
one_apart-from a b (inr e) = or_right _ _ (eq-eqb _ _ e)

-- the test of neighbours is the fact about their places
pub are_neighbours-is : (s p q : ℕ) → p < s * s → q < s * s
    → (are_neighbours s p q ≡ true) ↔ AreNeighbours s (place_of s p) (place_of s q)
unfolding are_neighbours
are_neighbours-is s p q h k =
    grind (
      arith,
      on_its_place,
      or_cases,
      and_parts,
      eqb-true,
      one_apart-true,
      or_left,
      and_from,
      eq-eqb,
      one_apart-from,
      or_right,
    )
