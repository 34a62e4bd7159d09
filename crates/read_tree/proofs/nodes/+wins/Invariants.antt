use Rattle.std.proofs.Common.{◌≡◌, ℕ, ◌+◌, ◌-◌, ◌*◌, ◌<◌, ◌&&◌, false}
use Rattle.std.specs.FinSet as set
use Rattle.go_rules.specs.Board.{largest_points}
use Rattle.go_rules.specs.Position.{BoardState}
use Rattle.go_base.specs.Facts.{Agrees, Grows}
use Rattle.trial_board.specs.Trials.{KeepsTrial, after}
use Rattle.read_rules.specs.GameTree.{succeeds}
use Rattle.read_tree.specs.Table.{IsTrueTableAt}
use Rattle.read_tree.proofs.nodes.+wins.Given as goal

-- each step down the tree spends a ply, and within a node the order of the calls is fixed: a target that is taken is
-- asked about first
abbrev pub decreases-taken_at : goal.decreases-taken_at
decreases-taken_at g l = 8 * l.plies

-- the result at a node is one step above it
abbrev pub decreases-wins_at : goal.decreases-wins_at
decreases-wins_at g l = 8 * l.plies + 1

-- a play is one step above the node after it, with as many plies
abbrev pub decreases-succeeds : goal.decreases-succeeds
decreases-succeeds g l = 8 * l.plies + 2

-- and so is the pass
abbrev pub decreases-pass_saves : goal.decreases-pass_saves
decreases-pass_saves g l = 8 * l.plies + 2

-- the candidates are one step above each of them
abbrev pub decreases-first_success : goal.decreases-first_success
decreases-first_success g l = 8 * l.plies + 3

-- the moves are one step above the candidates
abbrev pub decreases-first_move : goal.decreases-first_move
decreases-first_move g l = 8 * l.plies + 4

-- a good move is one step above the moves, and below a node with one ply more
abbrev pub decreases-has_good_move : goal.decreases-has_good_move
decreases-has_good_move g l = 8 * l.plies + 5

-- no candidate so far succeeds, on any position that agrees
abbrev pub invariant-first_success-plays : goal.invariant-first_success-plays
invariant-first_success-plays g l = record {
  stays : KeepsTrial g.L.Look.shows g.L.Look.seen l.fn.board l.board;
  grows : Grows (g.L.Look.seen l.initial.board.look) (g.L.Look.seen l.board.look);
  table : IsTrueTableAt (g.L.Look.seen l.board.look) l.node.turn l.memory.table.now;
  none : (pos : BoardState) → Agrees (g.L.Look.seen l.board.look) pos → (q : ℕ) → q < l.from
      → (set.contains l.candidates q && succeeds l.plies l.node (after pos l.fn.board.moves) q) ≡ false;
}

-- how many points are left
abbrev pub decreases-first_success-plays : goal.decreases-first_success-plays
decreases-first_success-plays g l = largest_points - l.from
