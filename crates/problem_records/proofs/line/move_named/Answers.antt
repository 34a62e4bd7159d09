-- A word says a move of the board.
use Rattle.std.proofs.Common.{subst, ◌≤◌, ℕ}
use Rattle.go_rules.specs.Board.{largest_points}
use Rattle.vertices.specs.Words.{kept}
use Rattle.problem_records.proofs.OnBoard.{said_below}
use Rattle.problem_records.proofs.line.move_named.Goals as goal

-- the board has no more points than there are
pub returns : goal.returns
returns c =
    said_below c.args.size largest_points (kept c.args.word.now) c.target_named.result c.target_named.ensures
    (subst (λ (n : ℕ). n ≤ largest_points) c.points.ensures.value c.points.ensures.bound)
