use Rattle.std.proofs.Common.{◌≡◌, false, arith}
use Rattle.std.proofs.lemmas.Int.{ints}
use Rattle.spiral.proofs.NextOffsets.{is_top, fails-top, next-top, next-right, next-bottom, next-left, next-ring}
use Rattle.spiral.proofs.Places.{offset_by_parts}
use Rattle.spiral.proofs.numbering.following.Goals.{Joined-else-dr-dc-lt0, else-dr-dc-lt0-via-then-dr-dc-lt0+else-dr-dc}
use Rattle.spiral.proofs.numbering.following.Goals as goal

-- the offset does not lie on the top
below : (c : Joined-else-dr-dc-lt0) → is_top (c.args.dr, c.args.dc) ≡ false
below c = grind (arith, fails-top, else-dr-dc-lt0-via-then-dr-dc-lt0+else-dr-dc, ints)

-- on the top of the ring the next offset lies to the right
pub returns-then-dr-dc : goal.returns-then-dr-dc
returns-then-dr-dc c = grind (arith, offset_by_parts, next-top, ints)

-- on the right side it lies below
pub returns-then-dr-dc-2 : goal.returns-then-dr-dc-2
returns-then-dr-dc-2 c = grind (arith, offset_by_parts, next-right, below, ints)

-- on the bottom it lies to the left
pub returns-then-dr-dc-gt0 : goal.returns-then-dr-dc-gt0
returns-then-dr-dc-gt0 c = grind (arith, offset_by_parts, next-bottom, below, ints)

-- on the left side it lies above
pub returns-then-dr-dc-3 : goal.returns-then-dr-dc-3
returns-then-dr-dc-3 c = λ i low here.
    offset_by_parts _ _ _ _ _
    (next-left (c.args.dr, c.args.dc) i low here (below (goal.at.returns-then-dr-dc-3 c).Joined-else-dr-dc-lt0)
    (omega (arith, ints)) (omega (arith, ints)) (omega (arith, ints)))
    (omega (arith, ints)) (omega (arith, ints))

-- the last offset of the ring is followed by the first of the next
pub returns-else-dr-dc-3 : goal.returns-else-dr-dc-3
returns-else-dr-dc-3 c = λ i low here.
    offset_by_parts _ _ _ _ _
    (next-ring (c.args.dr, c.args.dc) i low here (below (goal.at.returns-else-dr-dc-3 c).Joined-else-dr-dc-lt0)
    (omega (arith, ints)) (omega (arith, ints)) (omega (arith, ints)))
    (omega (arith, ints)) (omega (arith, ints))
