-- What the two game trees of a reading differ in.
use Rattle.std.specs.Prelude.{ℕ, Bool, true, false}
use Rattle.read_rules.specs.declared.tree.Tree.{Tree}
use Rattle.read_rules.specs.declared.tree.Tree.TheVariants.{Stated, Wider}

-- the tree tries the further candidates
abbrev pub is_wider : Tree → Bool
is_wider Stated = false
is_wider Wider = true

-- if no wide ply is left, the attacker still plays at a target with at most this many liberties
abbrev pub most_narrow : Tree → ℕ
most_narrow Stated = 2
most_narrow Wider = 4

-- if one or two wide plies are left, a target that can be captured has at most this many liberties
abbrev pub most_few : Tree → ℕ
most_few Stated = 3
most_few Wider = 4

-- how many steps from the string of its target the reading of one node looks: a candidate is at most three steps away
-- in the stated tree and four in the wider tree, and a play at a candidate looks two steps further
abbrev pub steps_of : Tree → ℕ
steps_of Stated = 5
steps_of Wider = 6
