-- The recursion over the plies, and the loop over the replies.
use Rattle.std.proofs.Common.{◌+◌, ◌-◌, ◌*◌}
use Rattle.go_rules.specs.Board.{largest_points}
use Rattle.write_sure.proofs.walk.+write.Given as goal

-- each step down the tree spends a ply
abbrev pub decreases-write_node : goal.decreases-write_node
decreases-write_node l = 8 * l.plies + 2

-- a node at which the target is taken is one step below
abbrev pub decreases-write_taken : goal.decreases-write_taken
decreases-write_taken l = 8 * l.plies + 1

-- a child is written with as many plies
abbrev pub decreases-write_play : goal.decreases-write_play
decreases-write_play l = 8 * l.plies + 3

-- the replies are one step above each of them
abbrev pub decreases-write_replies : goal.decreases-write_replies
decreases-write_replies l = 8 * l.plies + 4

-- the attacker's turn is one step above his play
abbrev pub decreases-write_attack : goal.decreases-write_attack
decreases-write_attack l = 8 * l.plies + 4

-- the defender's turn is one step above his replies
abbrev pub decreases-write_defence : goal.decreases-write_defence
decreases-write_defence l = 8 * l.plies + 5

-- how many points are left
abbrev pub decreases-write_replies-replies : goal.decreases-write_replies-replies
decreases-write_replies-replies l = largest_points - l.from
