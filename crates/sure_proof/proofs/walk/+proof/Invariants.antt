-- The recursion over the plies, and the loop over the replies.
use Rattle.std.proofs.Common.{◌≡◌, ◌+◌, ◌-◌, ◌*◌}
use Rattle.std.specs.List.{filter, range_with_len}
use Rattle.std.specs.FinSet as set
use Rattle.go_rules.specs.Board.{largest_points}
use Rattle.read_proof.specs.Tokens.{words_in}
use Rattle.sure_proof.specs.SureProofs.{at_replies, points_in, proved_by, proves_surely}
use Rattle.sure_proof.proofs.walk.+proof.Given as goal

-- each step down the tree spends a ply
abbrev pub decreases-proved : goal.decreases-proved
decreases-proved l = 8 * l.plies

-- a child is proved with as many plies
abbrev pub decreases-play_proved : goal.decreases-play_proved
decreases-play_proved l = 8 * l.plies + 1

-- and so is that after a reply
abbrev pub decreases-reply_proved : goal.decreases-reply_proved
decreases-reply_proved l = 8 * l.plies + 1

-- and that after the play that takes back
abbrev pub decreases-back_proved : goal.decreases-back_proved
decreases-back_proved l = 8 * l.plies + 1

-- a move is one step above its play
abbrev pub decreases-move_proved : goal.decreases-move_proved
decreases-move_proved l = 8 * l.plies + 2

-- the replies are one step above each of them
abbrev pub decreases-replies_proved : goal.decreases-replies_proved
decreases-replies_proved l = 8 * l.plies + 2

-- the defender's turn is one step above his replies
abbrev pub decreases-defence_proved : goal.decreases-defence_proved
decreases-defence_proved l = 8 * l.plies + 3

-- a turn is one step above each of these
abbrev pub decreases-turn_proved : goal.decreases-turn_proved
decreases-turn_proved l = 8 * l.plies + 4

-- what is left to prove, from the next reply on, behind the text read so far and with the points so far, is what was to
-- be proved
abbrev pub invariant-replies_proved-replies : goal.invariant-replies_proved-replies
invariant-replies_proved-replies l =
    at_replies (proves_surely l.plies) l.node l.pos (filter (set.contains l.asked)
    (range_with_len l.from (l.pos.size * l.pos.size - l.from))) (proved_by (words_in l.left) l.zone)
    ≡ at_replies (proves_surely l.plies) l.node l.pos (points_in l.pos.size l.asked)
    (proved_by (words_in l.fn.text) l.fn.zone)

-- how many points are left
abbrev pub decreases-replies_proved-replies : goal.decreases-replies_proved-replies
decreases-replies_proved-replies l = largest_points - l.from
