use Rattle.std.proofs.Common.{◌≡◌, ℕ, ◌+◌, ◌*◌, suc, true, not}
use Rattle.std.specs.FinSet as set
use Rattle.go_rules.specs.Below.{count_below}
use Rattle.go_rules.specs.Board.{largest_points}
use Rattle.go_base.specs.Facts.{Grows}
use Rattle.trial_board.specs.Trials.{KeepsTrial}
use Rattle.read_rules.specs.Candidates.{is_candidate}
use Rattle.read_tree.specs.Allowances.{has_some}
use Rattle.read_tree.specs.Steps.{IsLeft}
use Rattle.read_tree.specs.Table.{IsTrueTableAt}
use Rattle.read_tree.specs.Walk.{OnEachAgreeing, LooksNearWhere}
use Rattle.read_tree.proofs.tree.+read.Given as goal

-- each step down the tree spends a ply, and within a node the order of the calls is fixed: a target that is taken is
-- asked about first
abbrev pub decreases-taken : goal.decreases-taken
decreases-taken g l = 9 * l.plies

-- the result at a node is one step above it
abbrev pub decreases-attacker_wins : goal.decreases-attacker_wins
decreases-attacker_wins g l = 9 * l.plies + 1

-- the mover's way is one step above the result at the child, with as many plies
abbrev pub decreases-has_way : goal.decreases-has_way
decreases-has_way g l = 9 * l.plies + 2

-- a play is one step above the mover's way after it, with as many plies
abbrev pub decreases-succeeds : goal.decreases-succeeds
decreases-succeeds g l = 9 * l.plies + 3

-- the pass is one step above the mover's way after it, with as many plies
abbrev pub decreases-pass_saves : goal.decreases-pass_saves
decreases-pass_saves g l = 9 * l.plies + 3

-- the plays at a set of points are one step above each of them
abbrev pub decreases-some_of : goal.decreases-some_of
decreases-some_of g l = 9 * l.plies + 4

-- the later candidates are one step above the plays at a set of points
abbrev pub decreases-some_later : goal.decreases-some_later
decreases-some_later g l = 9 * l.plies + 5

-- the captures and liberties are one step above the plays at a set of points
abbrev pub decreases-some_capture_or_liberty : goal.decreases-some_capture_or_liberty
decreases-some_capture_or_liberty g l = 9 * l.plies + 5

-- the candidates off the liberties are one step above the later candidates
abbrev pub decreases-some_other : goal.decreases-some_other
decreases-some_other g l = 9 * l.plies + 6

-- all candidates are one step above those off the liberties
abbrev pub decreases-some_success : goal.decreases-some_success
decreases-some_success g l = 9 * l.plies + 7

-- the table is one step above all candidates
abbrev pub decreases-some_by_table : goal.decreases-some_by_table
decreases-some_by_table g l = 9 * l.plies + 8

-- a good move of the defender is one step above the later candidates
abbrev pub decreases-defender_has_good_move : goal.decreases-defender_has_good_move
decreases-defender_has_good_move g l = 9 * l.plies + 6

-- a good move is one step above the table, and below a node with one ply more
abbrev pub decreases-has_good_move : goal.decreases-has_good_move
decreases-has_good_move g l = 9 * l.plies + 9

-- what is missing is what no point that was tried gave, on any position that agrees
abbrev pub invariant-some_of-loop-p : goal.invariant-some_of-loop-p
invariant-some_of-loop-p g l = record {
  stays : KeepsTrial g.L.Look.shows g.L.Look.seen l.fn.board l.board;
  grows : Grows (g.L.Look.seen l.initial.board.look) (g.L.Look.seen l.board.look);
  some : has_some l.missing ≡ true;
  table : IsTrueTableAt (g.L.Look.seen l.board.look) l.turn l.memory.table.now;
  near : LooksNearWhere g.L.Look.seen l.fn.board l.board (suc l.plies) l.turn l.asked (λ here. (p : ℕ)
      → set.contains l.points p ≡ true → is_candidate l.turn here p ≡ true);
  left : OnEachAgreeing g.L.Look.seen l.fn.board l.board (λ here. IsLeft l.plies l.turn here (set.contains l.points)
      (set.contains l.tried) l.asked l.missing);
}

-- how many points are left
abbrev pub decreases-some_of-loop-p : goal.decreases-some_of-loop-p
decreases-some_of-loop-p g l = count_below largest_points (λ q. not (set.contains l.tried q))
