-- The loop over the points that are tried.
use Rattle.std.proofs.Common.{◌-◌}
use Rattle.std.specs.FinSet as set
use Rattle.go_rules.specs.Board.{largest_points}
use Rattle.go_rules.specs.Position.{BoardState}
use Rattle.go_base.specs.Facts.{Agrees}
use Rattle.trial_board.specs.Trials.{KeepsTrial, after}
use Rattle.read_rules.specs.GameTree.{succeeds}
use Rattle.read_tree.specs.Table.{IsTrueTableAt}
use Rattle.read_all.proofs.FoundMoves.{HasBelow}
use Rattle.read_all.proofs.moves.successes.Given as goal

-- those whose plays succeed came, as far as points were tried, on any position that agrees
abbrev pub invariant-points : goal.invariant-points
invariant-points g l = record {
  stays : KeepsTrial g.L.Look.shows g.L.Look.seen l.fn.board l.board;
  table : IsTrueTableAt (g.L.Look.seen l.board.look) l.node.turn l.memory.table.now;
  found : (pos : BoardState) → Agrees (g.L.Look.seen l.board.look) pos
      → HasBelow (set.contains l.tried) (succeeds l.plies l.node (after pos l.fn.board.moves)) l.from l.found;
}

-- how many points are left
abbrev pub decreases-points : goal.decreases-points
decreases-points g l = largest_points - l.from
