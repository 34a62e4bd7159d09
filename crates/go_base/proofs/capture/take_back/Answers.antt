use Rattle.std.proofs.Common.{ap, ◌∙◌}
use Rattle.go_rules.specs.Position.{stone_of}
use Rattle.go_base.proofs.BoardsBefore.{put_back}
use Rattle.go_base.proofs.capture.take_back.Goals as goal

-- the taken stones stand again, and the point is empty
pub returns-clause-over : goal.returns-clause-over
returns-clause-over g c = λ pos a.
    let s = g.V.View.rows c.args.board.now in
    let rows = g.met.V.View.asks_rows _ _ _ c.put_all.ensures.asks in
    let a1 = g.met.V.View.asks_agrees _ _ _ c.put.ensures.asks pos a in
    let foe = c.cell.ensures ∙ ap stone_of c.other.ensures in
    c.put.ensures.over pos a
    ∙ put_back s c.args.c c.args.p c.args.taken.now (g.V.View.cells c.args.board.now pos) _ c.requires.on_board
    (rw foe at (c.put_all.ensures.over pos a1))
