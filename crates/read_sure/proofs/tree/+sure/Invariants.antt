use Rattle.std.proofs.Common.{◌≡◌, ℕ, ◌+◌, ◌-◌, ◌*◌, ◌<◌, ◌&&◌, false}
use Rattle.std.specs.FinSet as set
use Rattle.go_rules.specs.Board.{largest_points}
use Rattle.go_rules.specs.Position.{BoardState}
use Rattle.go_base.specs.Facts.{Agrees, Grows}
use Rattle.trial_board.specs.Trials.{KeepsTrial, after}
use Rattle.sure_rules.specs.SureAnswer.{surely_succeeds}
use Rattle.read_sure.proofs.tree.+sure.Given as goal

-- each step down the tree spends a ply, and within a node the order of the calls is fixed: a target that is taken is
-- asked about first
abbrev pub decreases-taken : goal.decreases-taken
decreases-taken g l = 8 * l.plies

-- the result at a node is one step above it
abbrev pub decreases-surely_wins : goal.decreases-surely_wins
decreases-surely_wins g l = 8 * l.plies + 1

-- a play is one step above the node after it, with as many plies
abbrev pub decreases-succeeds : goal.decreases-succeeds
decreases-succeeds g l = 8 * l.plies + 2

-- and so is the pass
abbrev pub decreases-pass_holds : goal.decreases-pass_holds
decreases-pass_holds g l = 8 * l.plies + 2

-- the points are one step above each of them
abbrev pub decreases-first_sure : goal.decreases-first_sure
decreases-first_sure g l = 8 * l.plies + 3

-- the moves are one step above the points
abbrev pub decreases-first_sure_move : goal.decreases-first_sure_move
decreases-first_sure_move g l = 8 * l.plies + 4

-- the move of a node is one step above the moves, and below a node with one ply more
abbrev pub decreases-sure_move : goal.decreases-sure_move
decreases-sure_move g l = 8 * l.plies + 5

-- no point so far succeeds, on any position that agrees
abbrev pub invariant-first_sure-plays : goal.invariant-first_sure-plays
invariant-first_sure-plays g l = record {
  stays : KeepsTrial g.L.Look.shows g.L.Look.seen l.fn.board l.board;
  grows : Grows (g.L.Look.seen l.initial.board.look) (g.L.Look.seen l.board.look);
  none : (pos : BoardState) → Agrees (g.L.Look.seen l.board.look) pos → (q : ℕ) → q < l.from
      → (set.contains l.tried q && surely_succeeds l.plies l.node (after pos l.fn.board.moves) q) ≡ false;
}

-- how many points are left
abbrev pub decreases-first_sure-plays : goal.decreases-first_sure-plays
decreases-first_sure-plays g l = largest_points - l.from
