-- Where the further candidates lie, and every point that a search for them may look at: the neighbourhood of the
-- target's point, taken up to four times. The first area has the target's string, its liberties and the enemy stones
-- next to it.
use Rattle.std.specs.Prelude.{ℕ, Bool, List, if◌then◌else◌}
use Rattle.go_rules.specs.declared.Cell.{Cell}
use Rattle.go_rules.specs.Neighbourhood.{neighbourhood_of}
use Rattle.go_base.specs.Views.{alone}

-- p is in the neighbourhood of the target's point: it is that point, or a stone of its string, or a neighbour of such a
-- stone
abbrev pub first_area : ℕ → List Cell → ℕ → ℕ → Bool
first_area s cells target = neighbourhood_of s cells (alone target)

-- p is in the neighbourhood of the first area: Net and Beside lie here
abbrev pub second_area : ℕ → List Cell → ℕ → ℕ → Bool
second_area s cells target = neighbourhood_of s cells (first_area s cells target)

-- p is in the neighbourhood of the second area: Rescue, Join, Link and Cover lie here
abbrev pub third_area : ℕ → List Cell → ℕ → ℕ → Bool
third_area s cells target = neighbourhood_of s cells (second_area s cells target)

-- p is in the neighbourhood of the third area: Cut and Approach lie here
abbrev pub fourth_area : ℕ → List Cell → ℕ → ℕ → Bool
fourth_area s cells target = neighbourhood_of s cells (third_area s cells target)

-- the points that a search for the further candidates of a target may ask for
abbrev pub near_further : Bool → ℕ → List Cell → ℕ → ℕ → Bool
near_further attacker_to_play s cells target =
    if attacker_to_play then third_area s cells target else fourth_area s cells target
