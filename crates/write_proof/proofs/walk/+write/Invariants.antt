use Rattle.std.proofs.Common.{◌≡◌, ◌+◌, ◌-◌, ◌*◌, ◌≤◌, ◌++◌, length, true}
use Rattle.std.specs.List.{filter_map, filter, range_with_len}
use Rattle.go_rules.specs.Board.{largest_points}
use Rattle.trial_board.specs.Trials.{KeepsTrial}
use Rattle.read_rules.specs.Candidates.{is_candidate}
use Rattle.read_rules.specs.GameTree.{child_of}
use Rattle.read_tree.specs.Allowances.{Ko, has, under}
use Rattle.read_tree.specs.Table.{IsTrueTableAt}
use Rattle.read_proof.specs.Proves.{play_children}
use Rattle.read_proof.specs.FirstProof.{write_each, first_words}
use Rattle.write_proof.specs.Printed.{behind_blanks, position_on}
use Rattle.write_proof.specs.Room.{most_bytes}
use Rattle.write_proof.proofs.walk.+write.Given as goal

-- each step down the tree spends a ply
abbrev pub decreases-write : goal.decreases-write
decreases-write g l = 6 * l.plies + 1

-- the moves are written one step below
abbrev pub decreases-write_moves : goal.decreases-write_moves
decreases-write_moves g l = 6 * l.plies

-- a play is written with as many plies as the node after it
abbrev pub decreases-write_play : goal.decreases-write_play
decreases-write_play g l = 6 * l.plies + 2

-- and so is the pass
abbrev pub decreases-write_pass : goal.decreases-write_pass
decreases-write_pass g l = 6 * l.plies + 2

-- the plays are one step above each of them
abbrev pub decreases-write_plays : goal.decreases-write_plays
decreases-write_plays g l = 6 * l.plies + 3

-- and so is the first move
abbrev pub decreases-write_move : goal.decreases-write_move
decreases-write_move g l = 6 * l.plies + 3

-- and the play that takes back
abbrev pub decreases-write_back : goal.decreases-write_back
decreases-write_back g l = 6 * l.plies + 3

-- under each asked allowance, what is written so far, and what is left to write from the next candidate on, are what
-- was to be written
abbrev pub invariant-write_plays-plays : goal.invariant-write_plays-plays
invariant-write_plays-plays g l = record {
  stays : KeepsTrial g.L.Look.shows g.L.Look.seen l.fn.board l.board;
  table : IsTrueTableAt (g.L.Look.seen l.board.look) l.turn l.memory.table.now;
  text : (ko : Ko) → has l.asked ko ≡ true → l.out ++ behind_blanks (write_each (first_words l.plies l.won)
      (filter_map (child_of (under l.turn ko) (position_on g.L.Look.shows l.fn.board))
      (filter (is_candidate l.turn (position_on g.L.Look.shows l.fn.board))
      (range_with_len l.from ((position_on g.L.Look.shows l.fn.board).size
      * (position_on g.L.Look.shows l.fn.board).size - l.from)))))
      ≡ l.fn.out ++ behind_blanks (write_each (first_words l.plies l.won)
      (play_children (under l.turn ko) (position_on g.L.Look.shows l.fn.board)));
  bytes : length l.out ≤ most_bytes;
}

-- how many points are left
abbrev pub decreases-write_plays-plays : goal.decreases-write_plays-plays
decreases-write_plays-plays g l = largest_points - l.from
