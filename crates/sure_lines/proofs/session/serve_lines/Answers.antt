-- What was answered so far, and what the last call of the loop adds to it.
use Rattle.std.proofs.Common.{take, arith}
use Rattle.sure_lines.proofs.SessionLemmas.{answered-by, answered-flag, so_far-none, so_far-more, session-ended}
use Rattle.sure_lines.proofs.SessionLemmas.{session-done, nothing_taken}
use Rattle.sure_lines.proofs.session.serve_lines.Goals as goal

-- nothing was taken yet
pub pieces-init : goal.pieces-init
pieces-init g c = grind (arith, so_far-none)

-- the end came, and the rest was answered
pub returns-in-Ok-answer_rest : goal.returns-in-Ok-answer_rest
returns-in-Ok-answer_rest g c = λ done.
    let none = c.in-Ok-eq0.field-0-test in
    session-done _ _ _ _ _ _ _ _ _ _ _ _ c.pieces.invariant.so_far
    (nothing_taken _ _ c.next_piece.new.buf c.in-Ok-eq0.field-0 none c.in-Ok-eq0.ensures.bytes.0)
    (answered-by _ _ _ _ _ _ _ _ c.pieces.invariant.contents c.in-Ok-answer_rest.ensures.answered)

-- a line of the piece ended the session
pub returns-in-Ok-true : goal.returns-in-Ok-true
returns-in-Ok-true g c = λ done.
    session-ended _ _ _ _ _ _ _ _ _ _ _ (take c.in-Ok.count c.next_piece.new.buf) c.pieces.invariant.so_far
    c.in-Ok.ensures.bytes.0
    (answered-flag _ _ _ _ _ _ _ _ c.in-Ok-true.field-0-test
    (answered-by _ _ _ _ _ _ _ _ c.pieces.invariant.contents c.in-Ok-true.ensures.answered))

-- the lines of the piece were answered
pub pieces-preserved : goal.pieces-preserved
pieces-preserved g c = grind (arith, so_far-more, answered-flag, answered-by)
