-- Facts on offsets and places.
use Rattle.std.proofs.Common.{◌≡◌, ℕ, ◌/◌, ◌%◌, ℤ, pos, ◌+ℤ◌, refl, ◌∙◌, ap}
use Rattle.go_rules.specs.Transform.{Offset, transformed, IsNear}
use Rattle.spiral.specs.Spiral.{strip_of, point_of, place_at}

-- two offsets are one where their parts are
pub offset_by_parts : (x y a b : ℤ) (d : Offset) → d ≡ (a, b) → x ≡ a → y ≡ b → (x, y) ≡ d
offset_by_parts x y a b d e r c = rw (e, r, c) refl

-- the row and the column that the moved offset leads to give the place
pub placed : (s side t m row column : ℕ) (d moved : Offset) (x y : ℤ) → side ≡ s → row ≡ m / side → column ≡ m % side
    → moved ≡ transformed t d → x ≡ moved.0 → y ≡ moved.1
    → point_of s (strip_of s (pos row +ℤ x)) (strip_of s (pos column +ℤ y)) ≡ place_at s t m d
unfolding place_at
placed s side t m row column d moved x y same r c e p q = rw (r, c, p, q, e, same) refl

-- an offset is found, and then moved
pub moved_by : (t : ℕ) (d found moved : Offset) (x y : ℤ) → found ≡ d → x ≡ found.0 → y ≡ found.1
    → moved ≡ transformed t (x, y) → moved ≡ transformed t d
moved_by t d found moved x y e p q m = m ∙ (rw (p, q) (ap (transformed t) e))

-- an offset that is known to be near is so by its parts
pub near_by_parts : (d : Offset) (x y : ℤ) → IsNear d → x ≡ d.0 → y ≡ d.1 → IsNear (x, y)
near_by_parts d x y near r c = rw (r, c) near
