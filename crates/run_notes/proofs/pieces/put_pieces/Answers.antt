-- One piece more went out, or a front of it behind those before it.
use Rattle.std.proofs.Common.{◌∙◌, ℕ, List, subst}
use Rattle.std.specs.Io.KnownBytes.{Appends}
use Rattle.run_notes.specs.Putting.{PutsFront}
use Rattle.run_notes.proofs.PutLemmas.{on_err_from, piece_front, piece_more}
use Rattle.run_notes.proofs.pieces.put_pieces.Goals as goal

-- if the sink fails in a piece, it got those before it and a front of that piece
pub returns-in_err-put_all-clause-part : goal.returns-in_err-put_all-clause-part
returns-in_err-put_all-clause-part g c = on_err_from _
    (piece_front (g.K.Sink.written c.args.sink.now) (g.K.Sink.written c.loop-piece.sink)
    (g.K.Sink.written c.put_all.new.sink)
    c.args.pieces.now c.loop-piece.piece-index c.piece-item.result c.loop-piece-test.true c.piece-item.is
    c.loop-piece.invariant.put
    (subst (λ (p : List ℕ). PutsFront (g.K.Sink.written c.loop-piece.sink) (g.K.Sink.written c.put_all.new.sink) p)
    c.as_slice.ensures c.in_err-put_all.ensures.part))

-- one piece more went out behind those before it
pub loop-piece-preserved : goal.loop-piece-preserved
loop-piece-preserved g c = record {
  put = piece_more (g.K.Sink.written c.args.sink.now) (g.K.Sink.written c.loop-piece.sink)
      (g.K.Sink.written c.put_all.new.sink)
      c.args.pieces.now c.loop-piece.piece-index c.piece-item.result c.loop-piece-test.true c.piece-item.is
      c.loop-piece.invariant.put
      (subst (λ (p : List ℕ). Appends (g.K.Sink.written c.loop-piece.sink) (g.K.Sink.written c.put_all.new.sink) p)
      c.as_slice.ensures c.in_ok-put_all.ensures.ok);
  faults = c.in_ok-put_all.ensures.cause.ok ∙ c.loop-piece.invariant.faults;
}
