-- The loop over the points of the board.
use Rattle.std.proofs.Common.{◌&&◌, true}
use Rattle.read_all.proofs.FoundMoves.{HasBelow}
use Rattle.sure_rules.specs.SureAnswer.{surely_succeeds}
use Rattle.problem_verdicts.specs.SureQuestions.{is_seen}
use Rattle.problem_verdicts.proofs.sure_moves.successes.Given as goal

-- of the points so far those were found that are looked at and succeed
abbrev pub invariant-points : goal.invariant-points
invariant-points l = HasBelow (λ q. true)
    (λ q. is_seen l.fn.scope l.fn.node l.fn.position q && surely_succeeds l.fn.plies l.fn.node l.fn.position q)
    l.p l.found
