-- Some lines of the piece were answered, and one turn adds what ends in the bytes that it took.
use Rattle.std.proofs.Common.{arith}
use Rattle.sure_lines.proofs.SessionLemmas.{answered-by, answered-flag, piece-start, piece-more, piece-ended, piece-done}
use Rattle.sure_lines.proofs.SessionLemmas.{length-nil}
use Rattle.sure_lines.proofs.TakenLines.{lines_from-take, held_from-take}
use Rattle.sure_lines.proofs.session.answer_piece.Goals as goal

-- no line was answered yet
pub lines-init : goal.lines-init
lines-init g c = grind (arith, piece-start)

-- a line ended the session
pub returns-then-ended-clause-answered : goal.returns-then-ended-clause-answered
returns-then-ended-clause-answered g c =
    piece-ended _ _ _ _ _ _ _ _ _ _ _ c.lines.invariant.so_far
    (lines_from-take c.lines.lines.held c.answer_next.new.lines.held c.lines.rest.now c.in_ok-count.count
    c.in_ok-count.ensures.held.0)
    (answered-flag _ _ _ _ _ _ _ _ c.if-ended.true
    (answered-by _ _ _ _ _ _ _ _ c.lines.invariant.contents c.in_ok-count.ensures.answered))

-- no line did
pub lines-preserved : goal.lines-preserved
lines-preserved g c =
    grind (
      arith,
      piece-more,
      lines_from-take c.lines.lines.held c.answer_next.new.lines.held c.lines.rest.now c.in_ok-count.count c.in_ok-count.ensures.held.0,
      held_from-take c.lines.lines.held c.answer_next.new.lines.held c.lines.rest.now c.in_ok-count.count c.in_ok-count.ensures.held.0,
    )

-- nothing of the piece is left
pub returns-clause-answered : goal.returns-clause-answered
returns-clause-answered g c = grind (arith, length-nil, piece-done)

-- and what is held is what the piece leaves
pub returns-clause-held : goal.returns-clause-held
returns-clause-held g c = grind (arith, length-nil)
