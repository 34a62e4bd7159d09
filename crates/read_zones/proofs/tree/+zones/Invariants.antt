-- The recursion over the plies, and the loops over candidates and replies.
use Rattle.std.proofs.Common.{◌≡◌, ℕ, ◌+◌, ◌-◌, ◌*◌, ◌<◌, ◌&&◌, true, false}
use Rattle.std.specs.FinSet as set
use Rattle.go_rules.specs.Board.{largest_points}
use Rattle.read_rules.specs.GameTree.{child_of, some_child, each_child}
use Rattle.sure_rules.specs.SureTree.{surely_wins}
use Rattle.sure_rules.specs.Zones.{WhereverAgrees}
use Rattle.read_zones.proofs.tree.+zones.Given as goal

-- each step down the tree spends a ply, and within a node the order of the calls is fixed: first whether a lone stone
-- is taken back
abbrev pub decreases-back_zone : goal.decreases-back_zone
decreases-back_zone l = 8 * l.plies

-- a target that is taken is one step above it
abbrev pub decreases-taken_zone : goal.decreases-taken_zone
decreases-taken_zone l = 8 * l.plies + 1

-- and the node above that
abbrev pub decreases-zone_of : goal.decreases-zone_of
decreases-zone_of l = 8 * l.plies + 2

-- a play is one step above the node after it, with as many plies
abbrev pub decreases-play_zone : goal.decreases-play_zone
decreases-play_zone l = 8 * l.plies + 3

-- and so is a reply
abbrev pub decreases-reply_zone : goal.decreases-reply_zone
decreases-reply_zone l = 8 * l.plies + 3

-- candidates are one step above their plays
abbrev pub decreases-some_zone : goal.decreases-some_zone
decreases-some_zone l = 8 * l.plies + 4

-- the attacker's turn is one step above his candidates
abbrev pub decreases-attacker_zone : goal.decreases-attacker_zone
decreases-attacker_zone l = 8 * l.plies + 5

-- and the defender's above his replies
abbrev pub decreases-defender_zone : goal.decreases-defender_zone
decreases-defender_zone l = 8 * l.plies + 4

-- no candidate so far captures
abbrev pub invariant-some_zone-plays : goal.invariant-some_zone-plays
invariant-some_zone-plays l = (q : ℕ) → q < l.from
    → (set.contains l.shown.points q && some_child (surely_wins l.plies) (child_of l.node l.position q)) ≡ false

-- how many points are left
abbrev pub decreases-some_zone-plays : goal.decreases-some_zone-plays
decreases-some_zone-plays l = largest_points - l.from

-- the zone has what it began with, lies on the board, and shows that each reply so far fails
abbrev pub invariant-defender_zone-replies : goal.invariant-defender_zone-replies
invariant-defender_zone-replies l = record {
  larger : (q : ℕ) → set.contains l.initial.zone q ≡ true → set.contains l.zone q ≡ true;
  on_board : (q : ℕ) → set.contains l.zone q ≡ true → q < l.position.size * l.position.size;
  fails : (p : ℕ) → p < l.from → set.contains l.replies.points p ≡ true
      → WhereverAgrees l.position (set.contains l.zone) (λ here.
      each_child (surely_wins l.plies) (child_of l.node here p) ≡ true);
}

-- how many points are left
abbrev pub decreases-defender_zone-replies : goal.decreases-defender_zone-replies
decreases-defender_zone-replies l = largest_points - l.from
