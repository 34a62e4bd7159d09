use Rattle.std.proofs.Common.{◌+◌, ◌*◌, ◌<◌, ap, sym, subst, arith, ◌∙◌}
use Rattle.go_rules.specs.declared.Cell.TheVariants.{Empty}
use Rattle.go_base.specs.Flats.{KeepsRest-trans, flat_whole}
use Rattle.go_base.proofs.HeldBoards.{whole_after}
use Rattle.go_base.proofs.PutPoints.{PutOn, PutOn-next, PutOn-all}
use Rattle.go_strings.specs.Stands.{cells_of}
use Rattle.go_strings.proofs.NoteTrails.{noted_more}
use Rattle.go_strings.proofs.capture.clear.Goals as goal

-- there was no memory for a note
pub returns-in_err-put_cell-clause-noted : goal.returns-in_err-put_cell-clause-noted
returns-in_err-put_cell-clause-noted c = noted_more c.loop-q.invariant.noted c.put_cell.ensures.noted

-- one more point is empty
pub loop-q-preserved : goal.loop-q-preserved
loop-q-preserved c =
    let i = c.loop-q.invariant in
    let first = c.in-Some.ensures.some in
    let held = whole_after c.args.board.now c.loop-q.board i.keeps (c.requires.held.whole, c.requires.held.small) in
    let on : c.in-Some.q < c.loop-q.board.size * c.loop-q.board.size =
    subst (λ n. c.in-Some.q < n * n) (sym i.keeps.size) (c.requires.inside c.in-Some.q first.2) in
    let long = flat_whole c.loop-q.board held in
    record {
      keeps = KeepsRest-trans _ _ _ i.keeps c.put_cell.ensures.keeps;
      noted = noted_more i.noted c.put_cell.ensures.noted;
      put = subst (λ t. PutOn Empty c.args.points.now (cells_of c.args.board.now) t (c.in-Some.q + 1))
          (sym c.in_ok-put_cell.ensures.ok)
          (PutOn-next Empty c.args.points.now (cells_of c.args.board.now) (cells_of c.loop-q.board) c.loop-q.next
          c.in-Some.q first.0 i.put first.3 (omega (arith, on, long)) first.2);
    }

-- no member is left
pub returns-clause-cells : goal.returns-clause-cells
returns-clause-cells c =
    let i = c.loop-q.invariant in
    let held = whole_after c.args.board.now c.loop-q.board i.keeps (c.requires.held.whole, c.requires.held.small) in
    PutOn-all Empty c.args.points.now (cells_of c.args.board.now) (cells_of c.loop-q.board) c.loop-q.next _ i.put
    (flat_whole c.loop-q.board held ∙ ap (λ n. n * n) i.keeps.size) c.in_default.ensures.none
