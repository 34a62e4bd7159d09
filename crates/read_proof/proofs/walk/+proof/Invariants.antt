use Rattle.std.proofs.Common.{◌≡◌, ◌+◌, ◌-◌, ◌*◌}
use Rattle.std.specs.List.{filter_map, filter, range_with_len}
use Rattle.go_rules.specs.Board.{largest_points}
use Rattle.read_rules.specs.Candidates.{is_candidate}
use Rattle.read_rules.specs.GameTree.{child_of}
use Rattle.read_proof.specs.Tokens.{words_in}
use Rattle.read_proof.specs.Proves.{proves, at_each, play_children}
use Rattle.read_proof.proofs.walk.+proof.Given as goal

-- each step down the tree spends a ply
abbrev pub decreases-proved : goal.decreases-proved
decreases-proved l = 4 * l.plies

-- a child is proved with as many plies
abbrev pub decreases-move_proved : goal.decreases-move_proved
decreases-move_proved l = 4 * l.plies + 1

-- and so is that after the pass
abbrev pub decreases-pass_proved : goal.decreases-pass_proved
decreases-pass_proved l = 4 * l.plies + 1

-- and that after a play
abbrev pub decreases-play_proved : goal.decreases-play_proved
decreases-play_proved l = 4 * l.plies + 1

-- the plays are one step above each of them
abbrev pub decreases-plays_proved : goal.decreases-plays_proved
decreases-plays_proved l = 4 * l.plies + 2

-- what is left to prove, from the next candidate on and behind the text read so far, is what was to be proved
abbrev pub invariant-plays_proved-plays : goal.invariant-plays_proved-plays
invariant-plays_proved-plays l =
    at_each (proves l.plies l.won) (filter_map (child_of l.node l.pos)
    (filter (is_candidate l.node.turn l.pos)
    (range_with_len l.from (l.pos.size * l.pos.size - l.from)))) (words_in l.left)
    ≡ at_each (proves l.plies l.won) (play_children l.node l.pos) (words_in l.fn.text)

-- how many points are left
abbrev pub decreases-plays_proved-plays : goal.decreases-plays_proved-plays
decreases-plays_proved-plays l = largest_points - l.from
