-- A value says a move of the board.
use Rattle.std.proofs.Common.{subst, ◌≤◌, ◌*◌, ℕ}
use Rattle.go_rules.specs.Board.{largest_points}
use Rattle.problem_records.proofs.OnBoard.{all_below_more}
use Rattle.problem_records.proofs.variations.move_in.Goals as goal

-- the board has no more points than there are
pub returns : goal.returns
returns c =
    all_below_more (c.args.size * c.args.size) largest_points c.move_of.result
    (subst (λ (n : ℕ). n ≤ largest_points) c.points.ensures.value c.points.ensures.bound) c.move_of.ensures.on_board
